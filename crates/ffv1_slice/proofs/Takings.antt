-- The numbers of a header, read and tested one after another.
use Rattle.std.proofs.Common.{◌≡◌, ◌≢◌, ℕ, ◌+◌, ◌^◌, ◌<◌, ◌≤◌, List, [], ◌∷◌, ◌++◌, All, Bool, true, false, length, take, set, get_or-set_other, length-set, unsigned_abs, to_z, of_z, w32, SFits, rules, refl, sym, ap, ◌∙◌, subst, arith, inl, inr}
use Rattle.std.proofs.lemmas.Bool.{cases_eq}
use Rattle.std.proofs.lemmas.List.{get_or-take, take_more_set, length-take-le, append-nil}
use Rattle.std.proofs.lemmas.List.Elements.{All-append, All-cons, All-nil}
use Rattle.std.proofs.lemmas.Grind.{flat_map-append}
use Rattle.std.proofs.lemmas.Int.{to_z-of_z}
use Rattle.std.specs.Prelude.{ℤ, pos, negsuc, ◌≤ℤ◌, IsTrue, slice_index}
use Rattle.range_coder.specs.Choices.{Choice, moved}
use Rattle.range_coder.specs.Coding.{Gets}
use Rattle.range_coder.specs.Reading.{Reader}
use Rattle.range_coder.specs.Symbol.{IsCodable, symbol_choices, overlong_choices}
use Rattle.range_coder.specs.Table.{AreLive}
use Rattle.ffv1_params.specs.Parameters.{Parameters}
use Rattle.ffv1_slice.specs.Slice.{AreCells, AreTaken, number_choices, header_choices}
use Rattle.ffv1_slice.specs.Taking.{MayStand, NumbersRead, LongNumber, BadNumber}
use Rattle.ffv1_slice.proofs.Codings.{gets_nil, gets_more}

abbrev IsSmall : ℕ → Type 0
IsSmall n = n < 2 ^ 31

header_one : (ns : List ℕ) (n : ℕ) → header_choices (ns ++ n ∷ []) ≡ header_choices ns ++ number_choices n
unfolding header_choices
header_one ns n = flat_map-append number_choices ns (n ∷ []) ∙ ap (λ (cs : List Choice). header_choices ns ++ cs) (append-nil (number_choices n))

cells_same : (params : Parameters) (a b c d a' b' c' d' : ℕ) → a ≡ a' → b ≡ b' → c ≡ c' → d ≡ d' → AreCells params a b c d → AreCells params a' b' c' d'
cells_same params a b c d a' b' c' d' e f g h cells =
    let across : a + (c + 1) ≤ params.columns = cells.across in
    let down : b + (d + 1) ≤ params.rows = cells.down in
    record { across = omega arith; down = omega arith }

-- what a front of the numbers holds
front_at : (xs : List ℕ) (n j : ℕ) → j < n → slice_index (take n xs) j ≡ slice_index xs j
front_at xs n j below = get_or-take n xs j 0 below

pub no_numbers : (params : Parameters) (reader : Reader) (states numbers : List ℕ) → AreLive params.table states → length numbers ≡ 9 → NumbersRead params reader states reader states numbers 0
unfolding header_choices
no_numbers params reader states numbers live nine = record {
  taken = record { codable = All-nil IsSmall; cells = λ h. absurd (omega arith); luma_index = λ h. absurd (omega arith); difference_index = λ h. absurd (omega arith) };
  gets = gets_nil params.table reader states;
  live = live;
  nine = nine;
}

-- one more number that can stand
taken_more : (params : Parameters) (numbers : List ℕ) (at n : ℕ) → at < 9 → length numbers ≡ 9 → IsSmall n → AreTaken params (take at numbers) → MayStand params (set numbers at n) at → AreTaken params (take (at + 1) (set numbers at n))
taken_more params numbers at n few nine small t m =
    let long : length (take at numbers) ≡ at = length-take-le at numbers (omega arith) in
    let len : length (set numbers at n) ≡ length numbers = length-set numbers at n in
    let long' : length (take (at + 1) (set numbers at n)) ≡ at + 1 = length-take-le (at + 1) (set numbers at n) (omega arith) in
    let more : take (at + 1) (set numbers at n) ≡ take at numbers ++ n ∷ [] = take_more_set numbers at n (omega arith) in
    let new : (j : ℕ) → j < at + 1 → slice_index (take (at + 1) (set numbers at n)) j ≡ slice_index (set numbers at n) j = λ j b. front_at (set numbers at n) (at + 1) j b in
    let old : (j : ℕ) → j < at → slice_index (take at numbers) j ≡ slice_index (take (at + 1) (set numbers at n)) j = λ j b.
    (let ne : j ≢ at = omega arith in front_at numbers at j b ∙ sym (get_or-set_other numbers at j n 0 ne) ∙ sym (new j (omega arith))) in
    record {
      codable = subst (All IsSmall) (sym more) (All-append IsSmall (take at numbers) (n ∷ []) t.codable (All-cons IsSmall n [] small (All-nil IsSmall)));
      cells = λ h. elim (cases_eq at 3) [
        | inl is ↦ cells_same params _ _ _ _ _ _ _ _ (sym (new 0 (omega arith))) (sym (new 1 (omega arith))) (sym (new 2 (omega arith))) (sym (new 3 (omega arith))) (m.cells is)
        | inr ne ↦ cells_same params _ _ _ _ _ _ _ _ (old 0 (omega arith)) (old 1 (omega arith)) (old 2 (omega arith)) (old 3 (omega arith)) (t.cells (omega arith))
      ];
      luma_index = λ h. elim (cases_eq at 4) as (λ _. slice_index (take (at + 1) (set numbers at n)) 4 < length params.sets) [
        | inl is ↦ (let b : slice_index (set numbers at n) 4 < length params.sets = m.luma_index is in let e : slice_index (take (at + 1) (set numbers at n)) 4 ≡ slice_index (set numbers at n) 4 = new 4 (omega arith) in omega arith)
        | inr ne ↦ (let b : slice_index (take at numbers) 4 < length params.sets = t.luma_index (omega arith) in let e : slice_index (take at numbers) 4 ≡ slice_index (take (at + 1) (set numbers at n)) 4 = old 4 (omega arith) in omega arith)
      ];
      difference_index = λ h. elim (cases_eq at 5) as (λ _. slice_index (take (at + 1) (set numbers at n)) 5 < length params.sets) [
        | inl is ↦ (let b : slice_index (set numbers at n) 5 < length params.sets = m.difference_index is in let e : slice_index (take (at + 1) (set numbers at n)) 5 ≡ slice_index (set numbers at n) 5 = new 5 (omega arith) in omega arith)
        | inr ne ↦ (let b : slice_index (take at numbers) 5 < length params.sets = t.difference_index (omega arith) in let e : slice_index (take at numbers) 5 ≡ slice_index (take (at + 1) (set numbers at n)) 5 = old 5 (omega arith) in omega arith)
      ];
    }

-- a number that was taken could stand
stands : (params : Parameters) (numbers : List ℕ) (at n : ℕ) → at < 9 → length numbers ≡ 9 → AreTaken params (take at numbers ++ n ∷ []) → MayStand params (set numbers at n) at
stands params numbers at n few nine t =
    let len : length (set numbers at n) ≡ length numbers = length-set numbers at n in
    let long' : length (take (at + 1) (set numbers at n)) ≡ at + 1 = length-take-le (at + 1) (set numbers at n) (omega arith) in
    let more : take (at + 1) (set numbers at n) ≡ take at numbers ++ n ∷ [] = take_more_set numbers at n (omega arith) in
    let t' : AreTaken params (take (at + 1) (set numbers at n)) = subst (AreTaken params) (sym more) t in
    let new : (j : ℕ) → j < at + 1 → slice_index (take (at + 1) (set numbers at n)) j ≡ slice_index (set numbers at n) j = λ j b. front_at (set numbers at n) (at + 1) j b in
    record {
      cells = λ is. cells_same params _ _ _ _ _ _ _ _ (new 0 (omega arith)) (new 1 (omega arith)) (new 2 (omega arith)) (new 3 (omega arith)) (t'.cells (omega arith));
      luma_index = λ is. (let b : slice_index (take (at + 1) (set numbers at n)) 4 < length params.sets = t'.luma_index (omega arith) in let e : slice_index (take (at + 1) (set numbers at n)) 4 ≡ slice_index (set numbers at n) 4 = new 4 (omega arith) in omega arith);
      difference_index = λ is. (let b : slice_index (take (at + 1) (set numbers at n)) 5 < length params.sets = t'.difference_index (omega arith) in let e : slice_index (take (at + 1) (set numbers at n)) 5 ≡ slice_index (set numbers at n) 5 = new 5 (omega arith) in omega arith);
    }

pub number_read : (params : Parameters) (before : Reader) (states : List ℕ) (between : Reader) (held : List ℕ) (after : Reader) (left numbers : List ℕ) (at n : ℕ) (value : ℤ) → at < 9 → NumbersRead params before states between held numbers at → Gets params.table between held after left (moved 1 (symbol_choices value false)) → value ≡ pos n → IsSmall n → AreLive params.table left → MayStand params (set numbers at n) at → NumbersRead params before states after left (set numbers at n) (at + 1)
number_read params before states between held after left numbers at n value few h g is small live m =
    let nine : length numbers ≡ 9 = h.nine in
    let more : take (at + 1) (set numbers at n) ≡ take at numbers ++ n ∷ [] = take_more_set numbers at n (omega arith) in
    let g' : Gets params.table between held after left (number_choices n) = subst (λ (v : ℤ). Gets params.table between held after left (moved 1 (symbol_choices v false))) is g in
    let all : Gets params.table before states after left (header_choices (take at numbers) ++ number_choices n) = gets_more params.table before states between held after left (header_choices (take at numbers)) (number_choices n) h.gets g' in
    let e : header_choices (take at numbers) ++ number_choices n ≡ header_choices (take (at + 1) (set numbers at n)) = sym (header_one (take at numbers) n) ∙ ap header_choices (sym more) in
    record {
      taken = taken_more params numbers at n few h.nine small h.taken m;
      gets = subst (λ (cs : List Choice). Gets params.table before states after left cs) e all;
      live = live;
      nine = length-set numbers at n ∙ h.nine;
    }

pub number_long : (params : Parameters) (before : Reader) (states : List ℕ) (between : Reader) (held : List ℕ) (after : Reader) (left numbers : List ℕ) (at : ℕ) → at < 9 → NumbersRead params before states between held numbers at → Gets params.table between held after left (moved 1 overlong_choices) → LongNumber params before states after left
number_long params before states between held after left numbers at few h g =
    let nine : length numbers ≡ 9 = h.nine in
    let long : length (take at numbers) ≡ at = length-take-le at numbers (omega arith) in
    record {
      numbers = take at numbers;
      taken = h.taken;
      few = omega arith;
      gets = gets_more params.table before states between held after left (header_choices (take at numbers)) (moved 1 overlong_choices) h.gets g;
    }

pub number_bad : (params : Parameters) (before : Reader) (states : List ℕ) (between : Reader) (held : List ℕ) (after : Reader) (left numbers : List ℕ) (at n : ℕ) (value : ℤ) → at < 9 → NumbersRead params before states between held numbers at → Gets params.table between held after left (moved 1 (symbol_choices value false)) → value ≡ pos n → IsSmall n → (MayStand params (set numbers at n) at → ⊥) → BadNumber params before states after left
number_bad params before states between held after left numbers at n value few h g is small cannot =
    let nine : length numbers ≡ 9 = h.nine in
    let long : length (take at numbers) ≡ at = length-take-le at numbers (omega arith) in
    let g' : Gets params.table between held after left (number_choices n) = subst (λ (v : ℤ). Gets params.table between held after left (moved 1 (symbol_choices v false))) is g in
    let all : Gets params.table before states after left (header_choices (take at numbers) ++ number_choices n) = gets_more params.table before states between held after left (header_choices (take at numbers)) (number_choices n) h.gets g' in
    record {
      numbers = take at numbers;
      last = n;
      taken = h.taken;
      small = small;
      few = omega arith;
      refused = λ t. cannot (stands params numbers at n few h.nine t);
      gets = subst (λ (cs : List Choice). Gets params.table before states after left cs) (sym (header_one (take at numbers) n)) all;
    }

-- the same of a number as the code has it
number_of : (value : ℤ) → pos 0 ≤ℤ value → value ≡ pos (unsigned_abs value)
number_of (pos m) low = refl
number_of (negsuc m) low = absurd (search rules)

cast_is : (value : ℤ) → SFits w32 value → IsCodable value false → value ≡ pos (unsigned_abs (to_z w32 (of_z w32 value)))
cast_is value fits c = number_of value c.0 ∙ ap (λ (z : ℤ). pos (unsigned_abs z)) (sym (to_z-of_z w32 value fits))

cast_small : (value : ℤ) → SFits w32 value → IsCodable value false → IsSmall (unsigned_abs (to_z w32 (of_z w32 value)))
cast_small value fits c = subst (λ (z : ℤ). IsSmall (unsigned_abs z)) (sym (to_z-of_z w32 value fits)) c.1

pub number_taken : (params : Parameters) (before : Reader) (states : List ℕ) (between : Reader) (held : List ℕ) (after : Reader) (left numbers : List ℕ) (at : ℕ) (table : List ℕ) (value : ℤ) → table ≡ params.table → SFits w32 value → IsCodable value false → at < 9 → NumbersRead params before states between held numbers at → Gets table between held after left (moved 1 (symbol_choices value false)) → AreLive table left → MayStand params (set numbers at (unsigned_abs (to_z w32 (of_z w32 value)))) at → NumbersRead params before states after left (set numbers at (unsigned_abs (to_z w32 (of_z w32 value)))) (at + 1)
number_taken params before states between held after left numbers at table value t fits c few h g live m =
    number_read params before states between held after left numbers at (unsigned_abs (to_z w32 (of_z w32 value))) value few h (subst (λ (xs : List ℕ). Gets xs between held after left (moved 1 (symbol_choices value false))) t g) (cast_is value fits c) (cast_small value fits c) (subst (λ (xs : List ℕ). AreLive xs left) t live) m

pub number_refused : (params : Parameters) (before : Reader) (states : List ℕ) (between : Reader) (held : List ℕ) (after : Reader) (left numbers : List ℕ) (at : ℕ) (table : List ℕ) (value : ℤ) → table ≡ params.table → SFits w32 value → IsCodable value false → at < 9 → NumbersRead params before states between held numbers at → Gets table between held after left (moved 1 (symbol_choices value false)) → (may : Bool) → may ≡ false → (MayStand params (set numbers at (unsigned_abs (to_z w32 (of_z w32 value)))) at → IsTrue may) → BadNumber params before states after left
number_refused params before states between held after left numbers at table value t fits c few h g may isnt told =
    number_bad params before states between held after left numbers at (unsigned_abs (to_z w32 (of_z w32 value))) value few h (subst (λ (xs : List ℕ). Gets xs between held after left (moved 1 (symbol_choices value false))) t g) (cast_is value fits c) (cast_small value fits c) (λ m. (let e : false ≡ true = sym isnt ∙ told m in absurd (cc)))

pub ruleset takings = (no_numbers, number_read, number_long, number_bad)

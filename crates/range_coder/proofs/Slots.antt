-- One choice on one slot: what it leaves, put and got.
use Rattle.std.proofs.Common.{◌≡◌, ℕ, zero, suc, ◌+◌, ◌<◌, ◌≤◌, List, [], ◌∷◌, length, Bool, slice_index, slice_set, replicate, Result, Ok, Err, OnErr, IfOk, refl, sym, ap, ◌∙◌, subst, arith, inl, inr}
use Rattle.std.proofs.lemmas.Bool.{cases_eq}
use Rattle.std.proofs.lemmas.List.{get_or-replicate, get_or-set_same, get_or-set_other, length-set}
use Rattle.range_coder.specs.Interval.{narrow, narrowed}
use Rattle.range_coder.specs.Table.{IsLive, AreLive, next_state}
use Rattle.range_coder.specs.Reading.{Reader, ReadsOn}
use Rattle.range_coder.specs.Encoding.{Encoding}
use Rattle.range_coder.specs.Choices.{states_after, decided}
use Rattle.range_coder.specs.Symbol.{choice}
use Rattle.range_coder.specs.Coding.{Puts, PutsFront, Gets}

pub fresh_live : (table : List ℕ) → IsLive table 128 → AreLive table (replicate 32 128)
fresh_live table l = record {
  each = λ slot below. subst (λ (n : ℕ). IsLive table n) (sym (get_or-replicate 32 slot 128 0 below)) l;
}

-- a live state put into a slot leaves live states
pub live_set : (table states : List ℕ) (slot state : ℕ) → AreLive table states → IsLive table state → AreLive table (slice_set states slot state)
live_set table states slot state are l = record {
  each = λ k below.
      let len : length (slice_set states slot state) ≡ length states = length-set states slot state in
      let inside : k < length states = omega arith in
      elim (cases_eq k slot) [
        | inl e ↦ (let same : slice_index (slice_set states slot state) k ≡ state = ap (slice_index (slice_set states slot state)) e ∙ get_or-set_same states slot state 0 (omega arith) in subst (λ (n : ℕ). IsLive table n) (sym same) l)
        | inr ne ↦ subst (λ (n : ℕ). IsLive table n) (sym (get_or-set_other states slot k state 0 ne)) (are.each k inside)
      ];
}

-- what a slot has, put into it
set_own : (states : List ℕ) (slot : ℕ) → slot < length states → slice_set states slot (slice_index states slot) ≡ states
set_own [] slot h = absurd (omega arith)
set_own (s ∷ more) zero h = refl
set_own (s ∷ more) (suc slot) h = ap (λ (xs : List ℕ). s ∷ xs) (set_own more slot (omega arith))

-- one choice put, by what one put tells
pub puts_one : (table : List ℕ) (before : Encoding) (states : List ℕ) (after : Encoding) (left : List ℕ) (slot : ℕ) (bit : Bool) (state : ℕ) → after.interval ≡ narrow before.interval (slice_index states slot) bit → state ≡ next_state table (slice_index states slot) bit → left ≡ slice_set states slot state → before.spare ≤ after.spare + 1 → Puts table before states after left (choice slot bit ∷ [])
unfolding decided narrowed states_after
puts_one table before states after left slot bit state interval next is spare =
    record { interval = interval; adapts = is ∙ ap (slice_set states slot) next; spare = spare }

-- nothing is put of a choice that is refused
pub puts_none : (table : List ℕ) (before : Encoding) (states : List ℕ) (after : Encoding) (left : List ℕ) (slot : ℕ) (bit : Bool) (state : ℕ) → after.interval ≡ before.interval → slot < length states → state ≡ slice_index states slot → left ≡ slice_set states slot state → before.spare ≡ 0 → PutsFront table before states after left (choice slot bit ∷ [])
unfolding decided narrowed states_after
puts_none table before states after left slot bit state interval inside same is none = record {
  front = [];
  rest = choice slot bit ∷ [];
  is = refl;
  some = omega arith;
  puts = record { interval = interval; adapts = is ∙ ap (slice_set states slot) same ∙ set_own states slot inside; spare = omega arith };
  short = omega arith;
}

-- the same, by the fields of the states
pub puts_at : (table : List ℕ) (before : Encoding) (fields states : List ℕ) (after : Encoding) (left : List ℕ) (slot : ℕ) (bit : Bool) (state : ℕ) → fields ≡ states → after.interval ≡ narrow before.interval (slice_index fields slot) bit → state ≡ next_state table (slice_index fields slot) bit → left ≡ slice_set fields slot state → before.spare ≤ after.spare + 1 → Puts table before states after left (choice slot bit ∷ [])
puts_at table before fields states after left slot bit state same interval next is spare =
    subst (λ (xs : List ℕ). Puts table before xs after left (choice slot bit ∷ [])) same (puts_one table before fields after left slot bit state interval next is spare)

pub puts_none_at : (table : List ℕ) (before : Encoding) (fields states : List ℕ) (after : Encoding) (left : List ℕ) (slot : ℕ) (bit : Bool) (state : ℕ) → fields ≡ states → after.interval ≡ before.interval → slot < length fields → state ≡ slice_index fields slot → left ≡ slice_set fields slot state → before.spare ≡ 0 → PutsFront table before states after left (choice slot bit ∷ [])
puts_none_at table before fields states after left slot bit state same interval inside kept is none =
    subst (λ (xs : List ℕ). PutsFront table before xs after left (choice slot bit ∷ [])) same (puts_none table before fields after left slot bit state interval inside kept is none)

-- one choice got
pub gets_one : (table : List ℕ) (before : Reader) (states : List ℕ) (after : Reader) (left : List ℕ) (slot : ℕ) (bit : Bool) (state : ℕ) → ReadsOn before after (record { state = slice_index states slot; bit = bit } ∷ []) → state ≡ next_state table (slice_index states slot) bit → left ≡ slice_set states slot state → Gets table before states after left (choice slot bit ∷ [])
unfolding decided states_after
gets_one table before states after left slot bit state reads next is =
    record { reads = reads; adapts = is ∙ ap (slice_set states slot) next }

pub gets_at : (table : List ℕ) (before : Reader) (fields states : List ℕ) (after : Reader) (left : List ℕ) (slot : ℕ) (bit : Bool) (state : ℕ) → fields ≡ states → ReadsOn before after (record { state = slice_index fields slot; bit = bit } ∷ []) → state ≡ next_state table (slice_index fields slot) bit → left ≡ slice_set fields slot state → Gets table before states after left (choice slot bit ∷ [])
gets_at table before fields states after left slot bit state same reads next is =
    subst (λ (xs : List ℕ). Gets table before xs after left (choice slot bit ∷ [])) same (gets_one table before fields after left slot bit state reads next is)

pub on_err : {T E : Type 0} {P : Type 0} (r : Result T E) → P → OnErr r P
on_err (Ok x) p = tt
on_err (Err e) p = p

pub ok_of_both : {T E : Type 0} (r : Result T E) (P Q R : T → Type 0) → ((x : T) → P x → Q x → R x) → IfOk r P → IfOk r Q → IfOk r R
ok_of_both (Ok x) P Q R f p q = f x p q
ok_of_both (Err e) P Q R f p q = tt

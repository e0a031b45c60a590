-- A line of differences as choices.
use Rattle.std.proofs.Common.{◌≡◌, ℕ, zero, suc, ◌+◌, ◌-◌, ◌*◌, ◌%◌, ◌<◌, ◌≤◌, List, [], ◌∷◌, ◌++◌, Bool, true, false, length, take, get_or, refl, sym, ap, ◌∙◌, arith}
use Rattle.std.specs.Prelude.{ℤ, unsigned_abs, slice_index, slice_index_or}
use Rattle.std.specs.Int.{is_negative}
use Rattle.std.specs.List.{flat_map}
use Rattle.std.proofs.lemmas.Grind.{flat_map-append}
use Rattle.std.proofs.lemmas.List.{append-nil, take_all}
use Rattle.std.proofs.lemmas.Int.{ints}
use Rattle.std.proofs.Math.Seq.{take-suc}
use Rattle.std.proofs.Math.Nat.{mod-lt}
use Rattle.range_coder.specs.declared.symbol.Placed.{Placed}
use Rattle.range_coder.specs.Choices.{Choice}
use Rattle.range_coder.specs.Placing.{placed_symbol, placed_symbols, IsPlaced, ArePlaced}
use Rattle.ffv1_slice.specs.declared.around.Around.{Around}
use Rattle.ffv1_slice.specs.Below.{IsHalf}
use Rattle.ffv1_slice.specs.Plane.{context, prediction, difference, folded, joined}
use Rattle.ffv1_slice.specs.Work.{AreSlots, around_lines, placed_sample, ArePlacedSamples, choices_of_line}

-- a list, each of whose elements is known, as lists joined
pub listed_joined : {X : Type 0} (P : X → List Choice) (f : ℕ → X) (xs : List X) (n : ℕ) → ((k : ℕ) (d : X) → k < n → slice_index_or xs k d ≡ f k) → n ≤ length xs → flat_map P (take n xs) ≡ joined n (λ k. P (f k))
unfolding joined
listed_joined {X = X} P f xs zero each fits = refl
listed_joined {X = X} P f xs (suc n) each fits =
    let split : take (suc n) xs ≡ take n xs ++ (get_or xs n (f n) ∷ []) = take-suc xs n (f n) (omega arith) in
    let at : get_or xs n (f n) ≡ f n = each n (f n) (omega arith) in
    let front : flat_map P (take n xs) ≡ joined n (λ k. P (f k)) = listed_joined P f xs n (λ k d b. each k d (omega arith)) (omega arith) in
    ap (flat_map P) split
    ∙ flat_map-append P (take n xs) (get_or xs n (f n) ∷ [])
    ∙ ap (λ (cs : List Choice). cs ++ flat_map P (get_or xs n (f n) ∷ [])) front
    ∙ ap (λ (x : X). joined n (λ k. P (f k)) ++ flat_map P (x ∷ [])) at
    ∙ ap (λ (cs : List Choice). joined n (λ k. P (f k)) ++ cs) (append-nil (P (f n)))

-- the choices of the differences of a line
pub placed_line : (half : ℕ) (values : List ℤ) (first : ℕ) (above2 above line : List ℕ) (symbols : List Placed) (count : ℕ) → ArePlacedSamples half values first above2 above line symbols count → length symbols ≡ count → placed_symbols true symbols ≡ choices_of_line half values first above2 above line count
placed_line half values first above2 above line symbols count are len =
    let all : take count symbols ≡ symbols = take_all count symbols (omega arith) in
    ap (placed_symbols true) (sym all)
    ∙ listed_joined (placed_symbol true) (λ k. placed_sample half values first (around_lines above2 above line k) (slice_index line (k + 2))) symbols count are.each (omega arith)

-- a difference that is folded is small
folded_small : (half n : ℕ) → IsHalf half → unsigned_abs (folded half n) ≤ 65536
folded_small half n h =
    let most : half ≤ 65536 = h.most in
    let least : 256 ≤ half = h.least in
    let below : (n + half) % (2 * half) < 2 * half = mod-lt (n + half) {m = 2 * half} (omega arith) in
    omega (arith, ints)

pub difference_small : (half : ℕ) (negative : Bool) (p s : ℕ) → IsHalf half → unsigned_abs (difference half negative p s) ≤ 65536
unfolding difference
difference_small half true p s h = folded_small half (p + 2 * half - s) h
difference_small half false p s h = folded_small half (s + 2 * half - p) h

-- which can be coded
pub line_placed : (half : ℕ) (values : List ℤ) (first slots : ℕ) (above2 above line : List ℕ) (symbols : List Placed) (count : ℕ) → IsHalf half → AreSlots values first slots → ArePlacedSamples half values first above2 above line symbols count → length symbols ≡ count → ArePlaced slots true symbols
line_placed half values first slots above2 above line symbols count h slots_are are len = record {
  each = λ k d below.
      let a : Around = around_lines above2 above line k in
      let e : slice_index_or symbols k d ≡ placed_sample half values first (around_lines above2 above line k) (slice_index line (k + 2)) = are.each k d (omega arith) in
      let small : unsigned_abs (difference half (is_negative (context values a)) (prediction a) (slice_index line (k + 2))) ≤ 65536 = difference_small half (is_negative (context values a)) (prediction a) (slice_index line (k + 2)) h in
      let p : IsPlaced slots true (placed_sample half values first a (slice_index line (k + 2))) = record { within = slots_are.within a; codable = omega arith } in
      rw e p;
}

pub ruleset placing = (placed_line, line_placed)

-- The values of one table.
use Rattle.std.proofs.Common.{◌≡◌, ℕ, zero, suc, ◌+◌, ◌-◌, ◌*◌, ◌<◌, ◌≤◌, List, [], ◌∷◌, ◌++◌, length, sum, take, get_or, map, replicate, refl, sym, ap, subst, ◌∙◌, append_assoc, length-append, arith, ℤ}
use Rattle.std.proofs.lemmas.List.{append-nil}
use Rattle.std.proofs.lemmas.List.FromFn.{map-range_with_len_more}
use Rattle.std.proofs.lemmas.List.Sums.{sum_by-cons}
use Rattle.std.proofs.Math.ListN.{length-replicate}
use Rattle.std.proofs.Math.Nat.{mul-le-mul_right}
use Rattle.std.specs.List.{range_with_len}
use Rattle.ffv1_params.specs.QuantTables.{steps_from, steps_of, entry}

-- one run more
pub steps_more : (first : ℕ) (runs : List ℕ) (i d : ℕ) → i < length runs → steps_from first (take (i + 1) runs) ≡ steps_from first (take i runs) ++ replicate (get_or runs i d) (first + i)
unfolding steps_from
steps_more first [] i d lt = absurd (omega arith)
steps_more first (run ∷ runs) zero d lt =
    let e : first + 0 ≡ first = omega arith in
    rw e (append-nil (replicate run first))
steps_more first (run ∷ runs) (suc i) d lt =
    let e : suc i + 1 ≡ suc (i + 1) = omega arith in
    let f : first + suc i ≡ suc first + i = omega arith in
    rw (e, f) (ap (λ (steps : List ℕ). replicate run first ++ steps) (steps_more (suc first) runs i d (omega arith)) ∙ sym (append_assoc (replicate run first) (steps_from (suc first) (take i runs)) (replicate (get_or runs i d) (suc first + i))))

pub steps_none : (first : ℕ) (runs : List ℕ) → steps_from first (take 0 runs) ≡ []
unfolding steps_from
steps_none first runs = refl

pub length-steps : (first : ℕ) (runs : List ℕ) → length (steps_from first runs) ≡ sum runs
unfolding steps_from
length-steps first [] = refl
length-steps first (run ∷ runs) = omega (arith, sum_by-cons (λ x. x) run runs, length-append (replicate run first) (steps_from (suc first) runs), length-replicate run first, length-steps (suc first) runs)

-- no place stands in a run past the last
below_after : (first last run : ℕ) (rest : List ℕ) (k : ℕ) → first ≤ last → ((j : ℕ) → get_or rest j 0 ≤ last) → get_or (replicate run first ++ rest) k 0 ≤ last
below_after first last zero rest k le later = later k
below_after first last (suc run) rest zero le later = le
below_after first last (suc run) rest (suc k) le later = below_after first last run rest k le later

steps_up_to : (first : ℕ) (runs : List ℕ) (last k : ℕ) → first + length runs ≤ last + 1 → get_or (steps_from first runs) k 0 ≤ last
unfolding steps_from
steps_up_to first [] last k le = omega arith
steps_up_to first (run ∷ runs) last k le = below_after first last run (steps_from (suc first) runs) k (omega arith) (λ j. steps_up_to (suc first) runs last j (omega arith))

pub steps_below : (runs : List ℕ) (k : ℕ) → get_or (steps_of runs) k 0 ≤ length runs - 1
steps_below runs k = steps_up_to 0 runs (length runs - 1) k (omega arith)

-- the entries, one more of them
pub entries_more : (scale : ℕ) (steps : List ℕ) (n : ℕ) (values : List ℤ) → values ++ map (entry scale steps) (range_with_len 0 (n + 1)) ≡ (values ++ map (entry scale steps) (range_with_len 0 n)) ++ entry scale steps n ∷ []
entries_more scale steps n values = ap (λ (more : List ℤ). values ++ more) (map-range_with_len_more (entry scale steps) 0 n n (omega arith)) ∙ sym (append_assoc values (map (entry scale steps) (range_with_len 0 n)) (entry scale steps n ∷ []))

pub entries_done : (scale : ℕ) (steps : List ℕ) (n : ℕ) (values old : List ℤ) → n ≡ 256 → values ≡ old ++ map (entry scale steps) (range_with_len 0 n) → values ≡ old ++ map (entry scale steps) (range_with_len 0 256)
entries_done scale steps n values old e is = let P : ℕ → Type 0 = λ k. values ≡ old ++ map (entry scale steps) (range_with_len 0 k) in subst P e is

pub few_steps : (runs : List ℕ) (scale k : ℕ) → (length runs - 1) * scale ≤ 32767 → get_or (steps_of runs) k 0 * scale ≤ 32767
few_steps runs scale k few = omega (arith, mul-le-mul_right scale (steps_below runs k))

-- Residuals of a part of the samples, and their sum part after part.
use Rattle.std.proofs.Common.{◌≡◌, ℕ, zero, suc, ◌+◌, ◌-◌, ◌*◌, ◌/◌, ◌%◌, ◌^◌, ◌<◌, ◌≤◌, ℤ, pos, ◌-ℤ◌, List, ◌++◌, length, take, drop, refl, sym, subst, ap, ◌∙◌, arith, inl, inr, pow_mono, below_more}
use Rattle.std.specs.List.{slice_range, sum_by}
use Rattle.std.specs.Prelude.{max}
use Rattle.std.proofs.Math.Nat.{le-div_iff_mul-le, mul-le-mul}
use Rattle.std.proofs.lemmas.Nat.{pow_pos}
use Rattle.std.proofs.lemmas.Bool.{cases_lt}
use Rattle.std.proofs.lemmas.List.{get_or_past, ext_get_or, take_all, length-append, length-drop, length-take-le}
use Rattle.std.proofs.lemmas.List.Edits.{length-between, get_or-between}
use Rattle.std.proofs.lemmas.List.FromFn.{get_or-map-range_with_len}
use Rattle.std.proofs.lemmas.List.Sums.{sum_by-append, sum_by-take-le}
use Rattle.std.proofs.Math.Seq.{take-add}
use Rattle.std.proofs.lemmas.Slice.{take-put_mid}
use borrow.Rule.Slice.PartMut.{put_mid}
use Rattle.flac_predict.specs.declared.sets.LinearSet.{LinearSet}
use Rattle.flac_predict.specs.Samples.{sample_at, IsInside, AreInside}
use Rattle.flac_predict.specs.Fixed.{differences, fixed_residuals}
use Rattle.flac_predict.specs.Linear.{weighted, predicted, linear_residual, linear_residuals}
use Rattle.flac_predict.specs.Rice.{quotient, best_parameter, residual_bits}
use Rattle.flac_predict.proofs.Bounds.{nothing_is_inside}
use Rattle.flac_predict.proofs.FixedLaws.{length-differences}
use Rattle.flac_predict.proofs.LinearLaws.{length-linear_residuals}
use Rattle.flac_predict.proofs.RiceLaws.{least_takes}
use Rattle.flac_predict.proofs.SmallLaws.{differences_at}

-- a part of samples that are inside their bits
pub part_inside : (bits from to : ℕ) (samples : List ℤ) → 0 < 2 ^ (bits - 1) → to ≤ length samples → AreInside bits samples → AreInside bits (slice_range samples from to)
part_inside bits from to samples h l are = record {
  each = λ k. elim (cases_lt (from + k) to) as (λ _. IsInside bits (sample_at (slice_range samples from to) k)) [
    | inl m ↦ let e : sample_at (slice_range samples from to) k ≡ sample_at samples (from + k) = get_or-between samples from to k (pos 0) m in rw e (are.each (from + k))
    | inr m ↦
        let n : length (slice_range samples from to) ≡ to - from = length-between samples from to l in
        let p : sample_at (slice_range samples from to) k ≡ pos 0 = get_or_past (slice_range samples from to) k (pos 0) (omega (arith, n)) in
        rw p (nothing_is_inside bits h)
  ];
}

-- a prediction in a part is that in the whole
weighted_part : (count : ℕ) (coefficients samples : List ℤ) (from to place : ℕ) → count ≤ place → from + place < to → weighted count coefficients (slice_range samples from to) place ≡ weighted count coefficients samples (from + place)
unfolding weighted
weighted_part zero coefficients samples from to place h l = refl
weighted_part (suc count) coefficients samples from to place h l =
    let m : from + (place - suc count) ≡ from + place - suc count = omega arith in
    let one : sample_at (slice_range samples from to) (place - suc count) ≡ sample_at samples (from + place - suc count) = get_or-between samples from to (place - suc count) (pos 0) (omega arith) ∙ ap (λ (k : ℕ). sample_at samples k) m in
    let rest = weighted_part count coefficients samples from to place (omega arith) l in
    rw (one, rest) refl

residual_part : (set : LinearSet) (samples : List ℤ) (from to place : ℕ) → set.order ≤ place → from + place < to → linear_residual set (slice_range samples from to) place ≡ linear_residual set samples (from + place)
unfolding linear_residual predicted
residual_part set samples from to place h l =
    rw (get_or-between samples from to place (pos 0) l, weighted_part set.order set.coefficients samples from to place h l) refl

residual_at : (set : LinearSet) (samples : List ℤ) (k : ℕ) → k < length samples - set.order → sample_at (linear_residuals set samples) k ≡ linear_residual set samples (set.order + k)
unfolding linear_residuals
residual_at set samples k h =
    get_or-map-range_with_len (linear_residual set samples) set.order (length samples - set.order) k (set.order + k) (pos 0) h refl

-- the residuals of a part, behind its own warm-up, are a part of the residuals
pub part_of_residuals : (set : LinearSet) (samples : List ℤ) (from to : ℕ) → from ≤ to → to + set.order ≤ length samples → linear_residuals set (slice_range samples from (to + set.order)) ≡ slice_range (linear_residuals set samples) from to
part_of_residuals set samples from to h l =
    let part = slice_range samples from (to + set.order) in
    let n : length part ≡ to + set.order - from = length-between samples from (to + set.order) l in
    let a : length (linear_residuals set part) ≡ length part - set.order = length-linear_residuals set part in
    let w : length (linear_residuals set samples) ≡ length samples - set.order = length-linear_residuals set samples in
    let b : length (slice_range (linear_residuals set samples) from to) ≡ to - from = length-between (linear_residuals set samples) from to (omega (arith, w)) in
    ext_get_or (pos 0) (linear_residuals set part) (slice_range (linear_residuals set samples) from to) (omega (arith, n, a, b))
    (λ k m.
    let lt : k < to - from = omega (arith, n, a, m) in
    let e : sample_at (linear_residuals set part) k ≡ linear_residual set part (set.order + k) = residual_at set part k (omega (arith, n)) in
    let f : linear_residual set part (set.order + k) ≡ linear_residual set samples (from + (set.order + k)) = residual_part set samples from (to + set.order) (set.order + k) (omega arith) (omega arith) in
    let same : from + (set.order + k) ≡ set.order + (from + k) = omega arith in
    let g : sample_at (slice_range (linear_residuals set samples) from to) k ≡ sample_at (linear_residuals set samples) (from + k) = get_or-between (linear_residuals set samples) from to k (pos 0) (omega arith) in
    let i : sample_at (linear_residuals set samples) (from + k) ≡ linear_residual set samples (set.order + (from + k)) = residual_at set samples (from + k) (omega arith) in
    e ∙ f ∙ ap (λ (j : ℕ). linear_residual set samples j) same ∙ sym i ∙ sym g)

-- the same of the fixed predictors
differences_part : (samples : List ℤ) (from to : ℕ) → from ≤ to → to + 1 ≤ length samples → differences (slice_range samples from (to + 1)) ≡ slice_range (differences samples) from to
differences_part samples from to h l =
    let part = slice_range samples from (to + 1) in
    let n : length part ≡ to + 1 - from = length-between samples from (to + 1) l in
    let a : length (differences part) ≡ length part - 1 = length-differences part in
    let w : length (differences samples) ≡ length samples - 1 = length-differences samples in
    let b : length (slice_range (differences samples) from to) ≡ to - from = length-between (differences samples) from to (omega (arith, w)) in
    ext_get_or (pos 0) (differences part) (slice_range (differences samples) from to) (omega (arith, n, a, b))
    (λ k m.
    let lt : k < to - from = omega (arith, n, a, m) in
    let e : sample_at (differences part) k ≡ sample_at part (suc k) -ℤ sample_at part k = differences_at part k (omega (arith, n)) in
    let x : sample_at part (suc k) ≡ sample_at samples (from + suc k) = get_or-between samples from (to + 1) (suc k) (pos 0) (omega arith) in
    let y : sample_at part k ≡ sample_at samples (from + k) = get_or-between samples from (to + 1) k (pos 0) (omega arith) in
    let next : from + suc k ≡ suc (from + k) = omega arith in
    let g : sample_at (slice_range (differences samples) from to) k ≡ sample_at (differences samples) (from + k) = get_or-between (differences samples) from to k (pos 0) (omega arith) in
    let i : sample_at (differences samples) (from + k) ≡ sample_at samples (suc (from + k)) -ℤ sample_at samples (from + k) = differences_at samples (from + k) (omega arith) in
    e ∙ rw (x, y, next) (sym i) ∙ sym g)

pub part_of_order : (order : ℕ) (samples : List ℤ) (from to : ℕ) → from ≤ to → to + order ≤ length samples → fixed_residuals order (slice_range samples from (to + order)) ≡ slice_range (fixed_residuals order samples) from to
unfolding fixed_residuals
part_of_order zero samples from to h l =
    let e : to + zero ≡ to = omega arith in ap (slice_range samples from) e
part_of_order (suc order) samples from to h l =
    let e : to + suc order ≡ to + order + 1 = omega arith in
    let d : differences (slice_range samples from (to + order + 1)) ≡ slice_range (differences samples) from (to + order) = differences_part samples from (to + order) (omega arith) (omega arith) in
    ap (λ (n : ℕ). fixed_residuals order (differences (slice_range samples from n))) e ∙ ap (fixed_residuals order) d
    ∙ part_of_order order (differences samples) from to h (omega (arith, length-differences samples))

-- a list that is written up to a place, and the sum so far
pub record IsSoFar (whole now : List ℤ) (done sum : ℕ) : Type 0 where
  pub count : length now ≡ length whole
  pub within : done ≤ length whole
  pub front : take done now ≡ take done whole
  pub sum_is : sum ≡ sum_by (quotient 0) (take done whole)
  pub small : sum ≤ 4294967296 * done

pub nothing_so_far : (whole now : List ℤ) → length now ≡ length whole → IsSoFar whole now 0 0
nothing_so_far whole now e = record { count = e; within = omega arith; front = refl; sum_is = refl; small = omega arith }

front_more : (whole : List ℤ) (done to : ℕ) → done ≤ to → to ≤ length whole → take to whole ≡ take done whole ++ slice_range whole done to
front_more whole done to h l =
    let e : done + (to - done) ≡ to = omega arith in
    ap (λ (n : ℕ). take n whole) (sym e) ∙ take-add done (to - done) whole

length-put_mid : (a k : ℕ) (xs ys : List ℤ) → a + k ≤ length xs → length ys ≡ k → length (put_mid a k xs ys) ≡ length xs
length-put_mid a k xs ys h n =
    let t : length (take a xs) ≡ a = length-take-le a xs (omega arith) in
    let d : length (drop a xs) ≡ length xs - a = length-drop a xs in
    let dd : length (drop k (drop a xs)) ≡ length (drop a xs) - k = length-drop k (drop a xs) in
    let s : length (ys ++ drop k (drop a xs)) ≡ length ys + length (drop k (drop a xs)) = length-append ys (drop k (drop a xs)) in
    let w : length (take a xs ++ (ys ++ drop k (drop a xs))) ≡ length (take a xs) + length (ys ++ drop k (drop a xs)) = length-append (take a xs) (ys ++ drop k (drop a xs)) in
    omega (arith, h, n, t, d, dd, s, w)

pub one_part_more : (whole now part : List ℤ) (done to sum added : ℕ) → IsSoFar whole now done sum → done ≤ to → to ≤ length whole → part ≡ slice_range whole done to → added ≡ sum_by (quotient 0) part → added ≤ 4294967296 * length part
    → IsSoFar whole (put_mid done (to - done) now part) to (sum + added)
one_part_more whole now part done to sum added so h l e a m =
    let n : length part ≡ to - done = ap length e ∙ length-between whole done to l in
    let f : take to (put_mid done (to - done) now part) ≡ take done now ++ part = take-put_mid done (to - done) now part to (omega (arith, n)) (omega (arith, so.count)) in
    let w : take to whole ≡ take done whole ++ slice_range whole done to = front_more whole done to h l in
    let s : sum_by (quotient 0) (take done whole ++ slice_range whole done to) ≡ sum_by (quotient 0) (take done whole) + sum_by (quotient 0) (slice_range whole done to) = sum_by-append (quotient 0) (take done whole) (slice_range whole done to) in
    let p : sum_by (quotient 0) part ≡ sum_by (quotient 0) (slice_range whole done to) = ap (sum_by (quotient 0)) e in
    let t : sum_by (quotient 0) (take to whole) ≡ sum_by (quotient 0) (take done whole ++ slice_range whole done to) = ap (sum_by (quotient 0)) w in
    record {
      count = length-put_mid done (to - done) now part (omega (arith, so.count, h, l)) n ∙ so.count;
      within = l;
      front = rw (f, w, e) (ap (λ (xs : List ℤ). xs ++ slice_range whole done to) so.front);
      sum_is = omega (arith, so.sum_is, a, p, s, t);
      small = omega (arith, so.small, m, n);
    }

pub sum_is_reached : (whole now : List ℤ) (done sum most : ℕ) → IsSoFar whole now done sum → most ≤ sum → most ≤ sum_by (quotient 0) whole
sum_is_reached whole now done sum most so h =
    omega (arith, so.sum_is, h, sum_by-take-le (quotient 0) whole done)

pub all_is_written : (whole now : List ℤ) (done sum : ℕ) → IsSoFar whole now done sum → length whole ≤ done → now ≡ whole
all_is_written whole now done sum so h =
    sym (take_all done now (omega (arith, so.count))) ∙ so.front ∙ take_all done whole h

pub all_is_summed : (whole now : List ℤ) (done sum : ℕ) → IsSoFar whole now done sum → length whole ≤ done → sum ≡ sum_by (quotient 0) now
all_is_summed whole now done sum so h =
    so.sum_is ∙ ap (sum_by (quotient 0)) (take_all done whole h ∙ sym (all_is_written whole now done sum so h))

pub sum_is_small : (whole now : List ℤ) (done sum : ℕ) → IsSoFar whole now done sum → length whole ≤ 4096 → sum ≤ 2 ^ 44
sum_is_small whole now done sum so h = omega (arith, so.small, so.within)

-- a sum from which on the bits are reached, one parameter after another
shift_is : (rest at : ℕ) → rest ≤ 200000 → at ≤ 30 → rest * 2 ^ at % 18446744073709551616 ≡ rest * 2 ^ at
shift_is rest at h l =
    let p : 2 ^ at ≤ 2 ^ 30 = pow_mono {i = at} {j = 30} l in
    let m : rest * 2 ^ at ≤ 200000 * 2 ^ 30 = mul-le-mul h p in
    omega (arith, m)

pub shifted_is : (rest at : ℕ) → rest ≤ 200000 → at ≤ 30 → (rest * 2 ^ at % 18446744073709551616 ≡ rest * 2 ^ at) × (rest * 2 ^ at ≤ 2 ^ 48)
shifted_is rest at h l =
    let p : 2 ^ at ≤ 2 ^ 30 = pow_mono {i = at} {j = 30} l in
    let m : rest * 2 ^ at ≤ 200000 * 2 ^ 30 = mul-le-mul h p in
    (shift_is rest at h l, omega (arith, m))

pub reached : (bits count k reaching sum : ℕ) → (bits - (10 + count * k)) * 2 ^ k ≤ reaching → reaching - count ≤ sum → bits ≤ 10 + count * k + (sum + count) / 2 ^ k
reached bits count k reaching sum h l =
    let a : bits - (10 + count * k) ≤ (sum + count) / 2 ^ k = (le-div_iff_mul-le (pow_pos k)).1 (omega (arith, h, l)) in
    omega (arith, a)

less_on : (a b d : ℕ) → a ≤ b → b ≤ d → a ≤ d
less_on a b d h l = omega arith

-- the greatest so far, and one more
pub record IsReaching (bits count at reaching : ℕ) : Type 0 where
  pub each : (k : ℕ) → k < at → (bits - (10 + count * k)) * 2 ^ k ≤ reaching
  pub small : reaching ≤ 2 ^ 48

pub reaching_more : (bits count at reaching rest next : ℕ) → rest ≡ bits - (10 + count * at) → bits ≤ 200000 → at ≤ 30 → next ≡ max reaching (rest * 2 ^ at % 18446744073709551616) → IsReaching bits count at reaching → IsReaching bits count (at + 1) next
reaching_more bits count at reaching rest next e few l m so =
    let s = shifted_is rest at (omega (arith, e)) l in
    let grows : reaching ≤ next = omega (arith, m) in
    let one : rest * 2 ^ at ≤ next = omega (arith, m, s.0) in
    record {
      each = below_more (λ (k : ℕ). (bits - (10 + count * k)) * 2 ^ k ≤ next) at (λ k h. less_on _ reaching next (so.each k h) grows) (subst (λ (n : ℕ). n * 2 ^ at ≤ next) e one);
      small = omega (arith, m, s.0, s.1, so.small);
    }

-- so what the sum tells of the best parameter
pub takes_of : (residuals : List ℤ) (count bits : ℕ) → count ≡ length residuals → ((k : ℕ) → k ≤ 30 → bits ≤ 10 + count * k + (sum_by (quotient 0) residuals + count) / 2 ^ k) → bits ≤ residual_bits (best_parameter residuals) residuals
takes_of residuals count bits e low =
    let sum = sum_by (quotient 0) residuals in
    least_takes residuals sum bits refl (subst (λ (n : ℕ). (k : ℕ) → k ≤ 30 → bits ≤ 10 + n * k + (sum + n) / 2 ^ k) e low)

-- Linear prediction: what samples are predicted from, residuals and restored samples, which undo one another, and how
-- large predictions are.
use Rattle.std.proofs.Common.{◌≡◌, ℕ, zero, suc, ◌+◌, ◌-◌, ◌<◌, ◌≤◌, ℤ, pos, ◌+ℤ◌, ◌-ℤ◌, List, [], ◌∷◌, ◌++◌, length, map, take, refl, sym, ap, ◌∙◌, subst, arith}
use Rattle.std.specs.List.{range_with_len}
use Rattle.std.proofs.lemmas.Int.{ints}
use Rattle.std.proofs.lemmas.List.{get_or-take, take_all, take_more, take-take, take_at, length-take-le, length_push, get_or_push}
use Rattle.std.proofs.lemmas.List.FromFn.{length-map-range_with_len}
use Rattle.flac_predict.specs.declared.sets.LinearSet.{LinearSet}
use Rattle.flac_predict.specs.Samples.{sample_at}
use Rattle.flac_predict.specs.Linear.{weighted, predicted, linear_residual, linear_residuals, linear_restored}

-- a prediction depends on the samples before the place alone
pub weighted_same : (count : ℕ) (coefficients s t : List ℤ) (place : ℕ) → count ≤ place → ((k : ℕ) → k < place → sample_at s k ≡ sample_at t k) → weighted count coefficients s place ≡ weighted count coefficients t place
unfolding weighted
weighted_same zero coefficients s t place h e = refl
weighted_same (suc count) coefficients s t place h e =
    let one : sample_at s (place - suc count) ≡ sample_at t (place - suc count) = e (place - suc count) (omega arith) in
    let rest = weighted_same count coefficients s t place (omega arith) e in
    rw (one, rest) refl

pub predicted_front : (set : LinearSet) (samples : List ℤ) (place : ℕ) → set.order ≤ place → predicted set (take place samples) place ≡ predicted set samples place
unfolding predicted
predicted_front set samples place h =
    rw (weighted_same set.order set.coefficients (take place samples) samples place h (λ k l. get_or-take place samples k (pos 0) l)) refl

again : (x p : ℤ) → (x -ℤ p) +ℤ p ≡ x
again x p = omega (arith, ints)

-- a residual and the prediction from the front give the sample again
grown : (set : LinearSet) (samples : List ℤ) (place : ℕ) → place < length samples → set.order ≤ place → take place samples ++ (linear_residual set samples place +ℤ predicted set (take place samples) (length (take place samples))) ∷ [] ≡ take (place + 1) samples
unfolding linear_residual
grown set samples place h o =
    let l : length (take place samples) ≡ place = length-take-le place samples (omega arith) in
    let p : predicted set (take place samples) (length (take place samples)) ≡ predicted set samples place = ap (predicted set (take place samples)) l ∙ predicted_front set samples place o in
    rw (p, again (sample_at samples place) (predicted set samples place)) (sym (take_more samples place (pos 0) h))

-- samples are restored from a front of them and the residuals behind it
pub restored_behind : (set : LinearSet) (samples : List ℤ) (count place : ℕ) → place + count ≡ length samples → set.order ≤ place → linear_restored set (take place samples) (map (linear_residual set samples) (range_with_len place count)) ≡ samples
unfolding linear_restored
restored_behind set samples zero place e h = take_all place samples (omega arith)
restored_behind set samples (suc count) place e h =
    subst (λ (l : List ℤ). linear_restored set l (map (linear_residual set samples) (range_with_len (place + 1) count)) ≡ samples) (sym (grown set samples place (omega arith) h)) (restored_behind set samples count (place + 1) (omega arith) (omega arith))

pub linear_is_restored : (set : LinearSet) (samples : List ℤ) → set.order ≤ length samples → linear_restored set (take set.order samples) (linear_residuals set samples) ≡ samples
unfolding linear_residuals
linear_is_restored set samples h =
    restored_behind set samples (length samples - set.order) set.order (omega arith) (omega arith)

pub length-linear_residuals : (set : LinearSet) (samples : List ℤ) → length (linear_residuals set samples) ≡ length samples - set.order
unfolding linear_residuals
length-linear_residuals set samples =
    length-map-range_with_len (linear_residual set samples) set.order (length samples - set.order)

pub length-linear_restored : (set : LinearSet) (before residuals : List ℤ) → length (linear_restored set before residuals) ≡ length before + length residuals
unfolding linear_restored
length-linear_restored set before [] = omega arith
length-linear_restored set before (r ∷ more) =
    let x = r +ℤ predicted set before (length before) in
    let ih = length-linear_restored set (before ++ x ∷ []) more in
    let l = length_push before x in
    omega (arith, ih, l)

-- what was there before stays in front
pub restored_begins : (set : LinearSet) (before residuals : List ℤ) → take (length before) (linear_restored set before residuals) ≡ before
unfolding linear_restored
restored_begins set before [] = take_all (length before) before (omega arith)
restored_begins set before (r ∷ more) =
    let x = r +ℤ predicted set before (length before) in
    let all = linear_restored set (before ++ x ∷ []) more in
    let ih : take (length (before ++ x ∷ [])) all ≡ before ++ x ∷ [] = restored_begins set (before ++ x ∷ []) more in
    let l : length before ≤ length (before ++ x ∷ []) = omega (arith, length_push before x) in
    sym (take-take (length before) (length (before ++ x ∷ [])) all l)
    ∙ ap (take (length before)) ih ∙ take_at before (x ∷ []) (length before) refl

-- the residuals of restored samples
kept_behind : (set : LinearSet) (before residuals all : List ℤ) → all ≡ linear_restored set before residuals → set.order ≤ length before → map (linear_residual set all) (range_with_len (length before) (length residuals)) ≡ residuals
unfolding linear_restored linear_residual
kept_behind set before [] all e h = refl
kept_behind set before (r ∷ more) all e h =
    let x = r +ℤ predicted set before (length before) in
    let n = length before in
    let len : length (before ++ x ∷ []) ≡ n + 1 = length_push before x in
    let front : take (n + 1) all ≡ before ++ x ∷ [] = rw (e, ← len) (restored_begins set (before ++ x ∷ []) more) in
    let at : sample_at all n ≡ x = sym (get_or-take (n + 1) all n (pos 0) (omega arith)) ∙ ap (λ (l : List ℤ). sample_at l n) front ∙ get_or_push before x (pos 0) n refl in
    let begins : take n all ≡ before = sym (take-take n (n + 1) all (omega arith)) ∙ ap (take n) front ∙ take_at before (x ∷ []) n refl in
    let p : predicted set all n ≡ predicted set before n = sym (predicted_front set all n h) ∙ ap (λ (l : List ℤ). predicted set l n) begins in
    let first : sample_at all n -ℤ predicted set all n ≡ r = rw (at, p) (omega (arith, ints)) in
    let rest : map (linear_residual set all) (range_with_len (n + 1) (length more)) ≡ more = subst (λ (m : ℕ). map (linear_residual set all) (range_with_len m (length more)) ≡ more) len (kept_behind set (before ++ x ∷ []) more all e (omega (arith, len))) in
    rw (first, rest) refl

pub linear_is_kept : (set : LinearSet) (warm_up residuals : List ℤ) → length warm_up ≡ set.order → linear_residuals set (linear_restored set warm_up residuals) ≡ residuals
unfolding linear_residuals
linear_is_kept set warm_up residuals e =
    let all = linear_restored set warm_up residuals in
    let l : length residuals ≡ length all - set.order = omega (arith, length-linear_restored set warm_up residuals) in
    let k : map (linear_residual set all) (range_with_len (length warm_up) (length residuals)) ≡ residuals = kept_behind set warm_up residuals all refl (omega arith) in
    let j : map (linear_residual set all) (range_with_len set.order (length residuals)) ≡ residuals = subst (λ (n : ℕ). map (linear_residual set all) (range_with_len n (length residuals)) ≡ residuals) e k in
    subst (λ (n : ℕ). map (linear_residual set all) (range_with_len set.order n) ≡ residuals) l j

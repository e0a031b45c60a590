-- How large residuals of fixed predictors are, and what they are at a place.
use Rattle.std.proofs.Common.{◌≡◌, ℕ, zero, suc, ◌+◌, ◌-◌, ◌^◌, ◌<◌, ◌≤◌, ℤ, pos, ◌-ℤ◌, List, [], ◌∷◌, length, set, refl, sym, ap, ◌∙◌, ◌≢◌, subst, arith, lit<, lit≤, below_more, get_or-set_other, get_or-set_same}
use Rattle.std.proofs.lemmas.List.{ext_get_or}
use Rattle.flac_predict.specs.Samples.{sample_at, IsInside, AreInside}
use Rattle.flac_predict.specs.Fixed.{differences_from, differences, fixed_residuals}
use Rattle.flac_predict.proofs.Bounds.{nothing_is_inside, difference_inside, wider}
use Rattle.flac_predict.proofs.FixedLaws.{length-differences, length-fixed_residuals}

-- differences have one bit more
each_difference : (bits more : ℕ) (x : ℤ) (ys : List ℤ) → 0 < 2 ^ (more - 1) → 2 ^ (more - 1) ≡ 2 ^ (bits - 1) + 2 ^ (bits - 1) → IsInside bits x → ((place : ℕ) → IsInside bits (sample_at ys place)) → (place : ℕ) → IsInside more (sample_at (differences_from x ys) place)
unfolding differences_from
each_difference bits more x [] h e i are place = nothing_is_inside more h
each_difference bits more x (y ∷ rest) h e i are zero = difference_inside bits more x y e i (are 0)
each_difference bits more x (y ∷ rest) h e i are (suc place) =
    each_difference bits more y rest h e (are 0) (λ k. are (suc k)) place

pub differences_inside : (bits more : ℕ) (samples : List ℤ) → 0 < 2 ^ (more - 1) → 2 ^ (more - 1) ≡ 2 ^ (bits - 1) + 2 ^ (bits - 1) → AreInside bits samples → AreInside more (differences samples)
unfolding differences
differences_inside bits more [] h e are = record { each = λ place. nothing_is_inside more h }
differences_inside bits more (x ∷ rest) h e are =
    record { each = each_difference bits more x rest h e (are.each 0) (λ k. are.each (suc k)) }

pub fixed_is_small : (order : ℕ) (samples : List ℤ) → order ≤ 4 → AreInside 25 samples → AreInside 29 (fixed_residuals order samples)
unfolding fixed_residuals
fixed_is_small zero s h are = wider 25 29 s (lit≤ tt) are
fixed_is_small (suc zero) s h are = wider 26 29 (differences s) (lit≤ tt) (differences_inside 25 26 s (lit< tt) refl are)
fixed_is_small (suc (suc zero)) s h are =
    wider 27 29 (differences (differences s)) (lit≤ tt) (differences_inside 26 27 (differences s) (lit< tt) refl (differences_inside 25 26 s (lit< tt) refl are))
fixed_is_small (suc (suc (suc zero))) s h are =
    wider 28 29 (differences (differences (differences s))) (lit≤ tt) (differences_inside 27 28 (differences (differences s)) (lit< tt) refl (differences_inside 26 27 (differences s) (lit< tt) refl (differences_inside 25 26 s (lit< tt) refl are)))
fixed_is_small (suc (suc (suc (suc zero)))) s h are =
    differences_inside 28 29 (differences (differences (differences s))) (lit< tt) refl (differences_inside 27 28 (differences (differences s)) (lit< tt) refl (differences_inside 26 27 (differences s) (lit< tt) refl (differences_inside 25 26 s (lit< tt) refl are)))
fixed_is_small (suc (suc (suc (suc (suc more))))) s h are = absurd (omega arith)

-- a difference at a place
each_at : (x : ℤ) (ys : List ℤ) (place : ℕ) → place < length ys → sample_at (differences_from x ys) place ≡ sample_at ys place -ℤ sample_at (x ∷ ys) place
unfolding differences_from
each_at x [] place h = absurd (omega arith)
each_at x (y ∷ more) zero h = refl
each_at x (y ∷ more) (suc place) h = each_at y more place (omega arith)

pub differences_at : (samples : List ℤ) (place : ℕ) → suc place < length samples → sample_at (differences samples) place ≡ sample_at samples (suc place) -ℤ sample_at samples place
unfolding differences
differences_at [] place h = absurd (omega arith)
differences_at (x ∷ more) place h = each_at x more place (omega arith)

-- a residual of the next order at a place
pub fixed_residuals_at : (order : ℕ) (samples : List ℤ) (place : ℕ) → place + suc order < length samples → sample_at (fixed_residuals (suc order) samples) place ≡ sample_at (fixed_residuals order samples) (suc place) -ℤ sample_at (fixed_residuals order samples) place
unfolding fixed_residuals
fixed_residuals_at zero samples place h = differences_at samples place (omega arith)
fixed_residuals_at (suc order) samples place h =
    fixed_residuals_at order (differences samples) place (omega (arith, length-differences samples))

-- a list that agrees with the residuals at each place is the residuals
pub residuals_from_places : (order : ℕ) (samples out : List ℤ) → length out + order ≡ length samples → ((k : ℕ) → k < length out → sample_at out k ≡ sample_at (fixed_residuals order samples) k) → out ≡ fixed_residuals order samples
residuals_from_places order samples out e h =
    ext_get_or (pos 0) out (fixed_residuals order samples) (omega (arith, length-fixed_residuals order samples)) h

-- one more place is written
pub place_written : (order : ℕ) (samples out : List ℤ) (place : ℕ) (x : ℤ) → place < length out → ((k : ℕ) → k < place → sample_at out k ≡ sample_at (fixed_residuals order samples) k) → x ≡ sample_at (fixed_residuals order samples) place → (k : ℕ) → k < place + 1 → sample_at (set out place x) k ≡ sample_at (fixed_residuals order samples) k
place_written order samples out place x h below e =
    below_more (λ (k : ℕ). sample_at (set out place x) k ≡ sample_at (fixed_residuals order samples) k) place
    (λ k l. let n : k ≢ place = omega arith in get_or-set_other out place k x (pos 0) n ∙ below k l)
    (get_or-set_same out place x (pos 0) h ∙ e)

-- a difference of two residuals, at a place
pub residual_is : (order : ℕ) (samples : List ℤ) (place next : ℕ) (x y z : ℤ) → next ≡ suc place → next + order < length samples → y ≡ sample_at (fixed_residuals order samples) next → x ≡ sample_at (fixed_residuals order samples) place → z ≡ y -ℤ x → z ≡ sample_at (fixed_residuals (suc order) samples) place
residual_is order samples place next x y z n h e f g =
    let r : sample_at (fixed_residuals (suc order) samples) place ≡ sample_at (fixed_residuals order samples) (suc place) -ℤ sample_at (fixed_residuals order samples) place = fixed_residuals_at order samples place (omega arith) in
    let m : sample_at (fixed_residuals order samples) next ≡ sample_at (fixed_residuals order samples) (suc place) = ap (λ (k : ℕ). sample_at (fixed_residuals order samples) k) n in
    rw (g, e, f, m) (sym r)

pub first_residual_is : (samples : List ℤ) (place next : ℕ) (z : ℤ) → next ≡ suc place → next < length samples → z ≡ sample_at samples next -ℤ sample_at samples place → z ≡ sample_at (fixed_residuals 1 samples) place
unfolding fixed_residuals
first_residual_is samples place next z n h g =
    let r : sample_at (differences samples) place ≡ sample_at samples (suc place) -ℤ sample_at samples place = differences_at samples place (omega arith) in
    let m : sample_at samples next ≡ sample_at samples (suc place) = ap (λ (k : ℕ). sample_at samples k) n in
    rw (g, m) (sym r)

pub small_from : (order : ℕ) (samples out : List ℤ) → order ≤ 4 → AreInside 25 samples → out ≡ fixed_residuals order samples → AreInside 29 out
small_from order samples out h are e = subst (AreInside 29) (sym e) (fixed_is_small order samples h are)

pub zero_order : (order : ℕ) (samples out : List ℤ) → order ≡ 0 → out ≡ samples → out ≡ fixed_residuals order samples
unfolding fixed_residuals
zero_order order samples out e f = rw e f

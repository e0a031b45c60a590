-- Differences and sums undo one another, once and more often.
use Rattle.std.proofs.Common.{◌≡◌, ℕ, zero, suc, ◌+◌, ◌-◌, ◌≤◌, ℤ, ◌+ℤ◌, ◌-ℤ◌, List, [], ◌∷◌, ◌++◌, length, take, refl, sym, ap, ◌∙◌, arith}
use Rattle.std.proofs.lemmas.Int.{ints}
use Rattle.flac_predict.specs.Samples.{sample_at}
use Rattle.flac_predict.specs.Fixed.{differences_from, differences, sums_from, sums, fixed_residuals, fixed_restored, lasts, following}

same_cons : (a b : ℤ) (xs ys : List ℤ) → a ≡ b → xs ≡ ys → a ∷ xs ≡ b ∷ ys
same_cons a b xs ys e f = cc

undone : (x y : ℤ) → x +ℤ (y -ℤ x) ≡ y
undone x y = omega (arith, ints)

apart : (x d : ℤ) → (x +ℤ d) -ℤ x ≡ d
apart x d = omega (arith, ints)

-- a list's differences give it again, and the differences of sums are what was summed
pub sums_from-differences_from : (x : ℤ) (ys : List ℤ) → sums_from x (differences_from x ys) ≡ ys
unfolding sums_from differences_from
sums_from-differences_from x [] = refl
sums_from-differences_from x (y ∷ more) =
    rw (undone x y) (ap (λ (l : List ℤ). y ∷ l) (sums_from-differences_from y more))

pub differences_from-sums_from : (x : ℤ) (ds : List ℤ) → differences_from x (sums_from x ds) ≡ ds
unfolding sums_from differences_from
differences_from-sums_from x [] = refl
differences_from-sums_from x (d ∷ more) =
    same_cons ((x +ℤ d) -ℤ x) d (differences_from (x +ℤ d) (sums_from (x +ℤ d) more)) more (apart x d) (differences_from-sums_from (x +ℤ d) more)

pub length-differences_from : (x : ℤ) (ys : List ℤ) → length (differences_from x ys) ≡ length ys
unfolding differences_from
length-differences_from x [] = refl
length-differences_from x (y ∷ more) = ap suc (length-differences_from y more)

pub length-sums_from : (x : ℤ) (ds : List ℤ) → length (sums_from x ds) ≡ length ds
unfolding sums_from
length-sums_from x [] = refl
length-sums_from x (d ∷ more) = ap suc (length-sums_from (x +ℤ d) more)

pub length-differences : (ys : List ℤ) → length (differences ys) ≡ length ys - 1
unfolding differences
length-differences [] = refl
length-differences (y ∷ more) = length-differences_from y more ∙ grind arith

take-differences_from : (n : ℕ) (x : ℤ) (ys : List ℤ) → take n (differences_from x ys) ≡ differences_from x (take n ys)
unfolding differences_from
take-differences_from zero x ys = refl
take-differences_from (suc n) x [] = refl
take-differences_from (suc n) x (y ∷ more) = ap (λ (l : List ℤ). (y -ℤ x) ∷ l) (take-differences_from n y more)

take-sums_from : (n : ℕ) (x : ℤ) (ds : List ℤ) → take n (sums_from x ds) ≡ sums_from x (take n ds)
unfolding sums_from
take-sums_from zero x ds = refl
take-sums_from (suc n) x [] = refl
take-sums_from (suc n) x (d ∷ more) = ap (λ (l : List ℤ). (x +ℤ d) ∷ l) (take-sums_from n (x +ℤ d) more)

less-zero : (n : ℕ) → n - 0 ≡ n
less-zero n = omega arith

less_less : (n k m : ℕ) → m ≡ n - 1 → m - k ≡ n - suc k
less_less n k m e = omega arith

pub length-fixed_residuals : (order : ℕ) (samples : List ℤ) → length (fixed_residuals order samples) ≡ length samples - order
unfolding fixed_residuals
length-fixed_residuals zero samples = sym (less-zero (length samples))
length-fixed_residuals (suc order) samples =
    length-fixed_residuals order (differences samples) ∙ less_less (length samples) order (length (differences samples)) (length-differences samples)

pub length-fixed_restored : (order : ℕ) (warm_up residuals : List ℤ) → length warm_up ≡ order → length (fixed_restored order warm_up residuals) ≡ order + length residuals
unfolding fixed_restored sums differences
length-fixed_restored zero warm_up residuals e = omega arith
length-fixed_restored (suc order) [] residuals e = absurd (omega arith)
length-fixed_restored (suc order) (x ∷ ws) residuals e =
    let l : length (differences_from x ws) ≡ order = omega (arith, length-differences_from x ws) in
    let ih = length-fixed_restored order (differences_from x ws) residuals l in
    let s = length-sums_from x (fixed_restored order (differences_from x ws) residuals) in
    omega (arith, ih, s)

pub fixed_is_restored : (order : ℕ) (samples : List ℤ) → order ≤ length samples → fixed_restored order (take order samples) (fixed_residuals order samples) ≡ samples
unfolding fixed_residuals fixed_restored sums differences
fixed_is_restored zero samples h = refl
fixed_is_restored (suc order) [] h = absurd (omega arith)
fixed_is_restored (suc order) (x ∷ more) h =
    let ds = differences_from x more in
    let l : order ≤ length ds = omega (arith, length-differences_from x more) in
    let ih : fixed_restored order (take order ds) (fixed_residuals order ds) ≡ ds = fixed_is_restored order ds l in
    let t : differences_from x (take order more) ≡ take order ds = sym (take-differences_from order x more) in
    rw (t, ih) (ap (λ (l : List ℤ). x ∷ l) (sums_from-differences_from x more))

-- the residuals of what they were restored to are these, behind the same warm-up
pub fixed_is_kept : (order : ℕ) (warm_up residuals : List ℤ) → length warm_up ≡ order → fixed_residuals order (fixed_restored order warm_up residuals) ≡ residuals
unfolding fixed_residuals fixed_restored sums differences
fixed_is_kept zero warm_up residuals e = refl
fixed_is_kept (suc order) [] residuals e = absurd (omega arith)
fixed_is_kept (suc order) (x ∷ ws) residuals e =
    let l : length (differences_from x ws) ≡ order = omega (arith, length-differences_from x ws) in
    let ih = fixed_is_kept order (differences_from x ws) residuals l in
    rw (differences_from-sums_from x (fixed_restored order (differences_from x ws) residuals)) ih

pub fixed_begins : (order : ℕ) (warm_up residuals : List ℤ) → length warm_up ≡ order → take order (fixed_restored order warm_up residuals) ≡ warm_up
unfolding fixed_restored sums differences
fixed_begins zero [] residuals e = refl
fixed_begins zero (x ∷ ws) residuals e = absurd (omega arith)
fixed_begins (suc order) [] residuals e = absurd (omega arith)
fixed_begins (suc order) (x ∷ ws) residuals e =
    let l : length (differences_from x ws) ≡ order = omega (arith, length-differences_from x ws) in
    let rest = fixed_restored order (differences_from x ws) residuals in
    let ih : take order rest ≡ differences_from x ws = fixed_begins order (differences_from x ws) residuals l in
    let t : take order (sums_from x rest) ≡ sums_from x (take order rest) = take-sums_from order x rest in
    rw (t, ih) (ap (λ (l : List ℤ). x ∷ l) (sums_from-differences_from x ws))

-- sums over a list's differences, and over more
sums_over : (x : ℤ) (ws more : List ℤ) → sums_from x (differences_from x ws ++ more) ≡ ws ++ sums_from (sample_at (x ∷ ws) (length ws)) more
unfolding sums_from differences_from
sums_over x [] more = refl
sums_over x (y ∷ ws) more = rw (undone x y) (ap (λ (l : List ℤ). y ∷ l) (sums_over y ws more))

-- restored samples are the warm-up and what follows its lasts
pub restored_follows : (order : ℕ) (warm_up residuals : List ℤ) → length warm_up ≡ order → fixed_restored order warm_up residuals ≡ warm_up ++ following (lasts order warm_up) residuals
unfolding fixed_restored sums differences lasts following
restored_follows zero [] residuals e = refl
restored_follows zero (x ∷ ws) residuals e = absurd (omega arith)
restored_follows (suc order) [] residuals e = absurd (omega arith)
restored_follows (suc order) (x ∷ ws) residuals e =
    let ds = differences_from x ws in
    let l : length ds ≡ order = omega (arith, length-differences_from x ws) in
    let n : length ws ≡ order = omega arith in
    let ih : fixed_restored order ds residuals ≡ ds ++ following (lasts order ds) residuals = restored_follows order ds residuals l in
    let s : sums_from x (ds ++ following (lasts order ds) residuals) ≡ ws ++ sums_from (sample_at (x ∷ ws) (length ws)) (following (lasts order ds) residuals) = sums_over x ws (following (lasts order ds) residuals) in
    let t : ws ++ sums_from (sample_at (x ∷ ws) (length ws)) (following (lasts order ds) residuals) ≡ ws ++ sums_from (sample_at (x ∷ ws) order) (following (lasts order ds) residuals) = ap (λ (m : ℕ). ws ++ sums_from (sample_at (x ∷ ws) m) (following (lasts order ds) residuals)) n in
    rw ih (ap (λ (l : List ℤ). x ∷ l) (s ∙ t))

-- The fixed predictors (RFC 9639, section 9.2.5): their residuals are the differences of the samples, taken as many
-- times as the order says, and the samples are the sums of these.
use Rattle.std.specs.Prelude.{ℕ, zero, suc, ℤ, ◌+ℤ◌, ◌-ℤ◌, List, [], ◌∷◌}
use Rattle.flac_predict.specs.Samples.{sample_at}

-- each number less the one before it, the first less one that stands before the list
unfoldable pub differences_from : ℤ → List ℤ → List ℤ
differences_from before [] = []
differences_from before (x ∷ more) = (x -ℤ before) ∷ differences_from x more

-- each number but the first, less the one before it
unfoldable pub differences : List ℤ → List ℤ
differences [] = []
differences (x ∷ more) = differences_from x more

-- a number that stands before the list and the first difference, that sum and the second one, and so on
unfoldable pub sums_from : ℤ → List ℤ → List ℤ
sums_from before [] = []
sums_from before (difference ∷ more) = (before +ℤ difference) ∷ sums_from (before +ℤ difference) more

-- a number, and with each difference the next one
unfoldable pub sums : ℤ → List ℤ → List ℤ
sums x differences = x ∷ sums_from x differences

-- the residuals of a list of samples
unfoldable pub fixed_residuals : ℕ → List ℤ → List ℤ
fixed_residuals zero samples = samples
fixed_residuals (suc order) samples = fixed_residuals order (differences samples)

-- the samples of a warm-up of as many samples as the order says, and of residuals
unfoldable pub fixed_restored : ℕ → List ℤ → List ℤ → List ℤ
fixed_restored zero warm_up residuals = residuals
fixed_restored (suc order) warm_up residuals =
    sums (sample_at warm_up 0) (fixed_restored order (differences warm_up) residuals)

-- the last of so many samples, their last difference, the last difference of the differences and so on
unfoldable pub lasts : ℕ → List ℤ → List ℤ
lasts zero samples = []
lasts (suc order) samples = sample_at samples order ∷ lasts order (differences samples)

-- the samples that follow such lasts, with residuals
unfoldable pub following : List ℤ → List ℤ → List ℤ
following [] residuals = residuals
following (x ∷ more) residuals = sums_from x (following more residuals)

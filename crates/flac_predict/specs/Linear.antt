-- Linear prediction (RFC 9639, section 9.2.6): a sample is predicted as a weighted sum of the samples before it, shifted
-- right, rounding down. The first coefficient is for the newest sample.
use Rattle.std.specs.Prelude.{ℕ, zero, suc, ◌-◌, ◌≤◌, ℤ, pos, ◌+ℤ◌, ◌-ℤ◌, ◌*ℤ◌, List, [], ◌∷◌, ◌++◌, length, map, take}
use Rattle.std.specs.Int.{int_shr}
use Rattle.std.specs.List.{range_with_len}
use Rattle.flac_predict.specs.Samples.{sample_at, AreInside}
use Rattle.flac_predict.specs.declared.sets.LinearSet.{LinearSet}

-- the sum of the first coefficients, so many, each times the sample that stands so far before a place
unfoldable pub weighted : ℕ → List ℤ → List ℤ → ℕ → ℤ
weighted zero coefficients samples place = pos 0
weighted (suc count) coefficients samples place =
    weighted count coefficients samples place +ℤ (sample_at coefficients count *ℤ sample_at samples (place - suc count))

-- the prediction of the sample at a place
unfoldable pub predicted : LinearSet → List ℤ → ℕ → ℤ
predicted set samples place = int_shr (weighted set.order set.coefficients samples place) set.shift

-- the residual of the sample at a place
unfoldable pub linear_residual : LinearSet → List ℤ → ℕ → ℤ
linear_residual set samples place = sample_at samples place -ℤ predicted set samples place

-- the residuals of a list of samples: one for each sample behind the warm-up
unfoldable pub linear_residuals : LinearSet → List ℤ → List ℤ
linear_residuals set samples =
    map (linear_residual set samples) (range_with_len set.order (length samples - set.order))

-- the samples: those before, and each residual with the prediction from all samples before it
unfoldable pub linear_restored : LinearSet → List ℤ → List ℤ → List ℤ
linear_restored set before [] = before
linear_restored set before (residual ∷ more) =
    linear_restored set (before ++ (residual +ℤ predicted set before (length before)) ∷ []) more

-- a set that a subframe can hold
pub record IsLinearSet (set : LinearSet) : Type 0 where
  pub some : 1 ≤ set.order
  pub order : set.order ≤ 32
  pub precise : 1 ≤ set.precision
  pub precision : set.precision ≤ 15
  pub shift : set.shift ≤ 15
  pub coefficients : AreInside set.precision (take set.order set.coefficients)

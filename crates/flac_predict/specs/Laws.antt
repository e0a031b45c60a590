-- What holds of residuals, of restored samples and of the least of a list.
use Rattle.std.specs.Prelude.{◌≡◌, ℕ, ◌+◌, ◌-◌, ◌*◌, ◌≤◌, ℤ, List, length, take}
use Rattle.flac_predict.specs.declared.sets.LinearSet.{LinearSet}
use Rattle.flac_predict.specs.Samples.{AreInside}
use Rattle.flac_predict.specs.Fixed.{fixed_residuals, fixed_restored}
use Rattle.flac_predict.specs.Linear.{linear_residuals, linear_restored, IsLinearSet}
use Rattle.flac_predict.specs.Bank.{IsOfBank}
use Rattle.flac_predict.specs.Rice.{residual_bits, parameters, best_parameter}
use Rattle.flac_predict.specs.Choice.{candidates, candidate_bits, best_candidate, IsCandidate}
use Rattle.flac_predict.specs.Least.{IsFirstLeast}

-- the samples are restored from their warm-up and their residuals
abbrev pub FixedIsRestored : Type 0
FixedIsRestored =
    (order : ℕ) (samples : List ℤ) → order ≤ length samples → fixed_restored order (take order samples) (fixed_residuals order samples) ≡ samples

abbrev pub LinearIsRestored : Type 0
LinearIsRestored =
    (set : LinearSet) (samples : List ℤ) → set.order ≤ length samples → linear_restored set (take set.order samples) (linear_residuals set samples) ≡ samples

-- the residuals of restored samples are those that they were restored from, behind the same warm-up
pub record IsBehind (warm_up residuals restored kept : List ℤ) : Type 0 where
  pub same : kept ≡ residuals
  pub begins : take (length warm_up) restored ≡ warm_up

abbrev pub FixedIsKept : Type 0
FixedIsKept =
    (warm_up residuals : List ℤ) → let restored = fixed_restored (length warm_up) warm_up residuals in IsBehind warm_up residuals restored (fixed_residuals (length warm_up) restored)

abbrev pub LinearIsKept : Type 0
LinearIsKept =
    (set : LinearSet) (warm_up residuals : List ℤ) → length warm_up ≡ set.order → let restored = linear_restored set warm_up residuals in IsBehind warm_up residuals restored (linear_residuals set restored)

-- how many residuals and samples there are
abbrev pub FixedCounts : Type 0
FixedCounts = (order : ℕ) (samples : List ℤ) → length (fixed_residuals order samples) ≡ length samples - order

abbrev pub LinearCounts : Type 0
LinearCounts = (set : LinearSet) (samples : List ℤ) → length (linear_residuals set samples) ≡ length samples - set.order

abbrev pub FixedRestoredCounts : Type 0
FixedRestoredCounts =
    (warm_up residuals : List ℤ) → length (fixed_restored (length warm_up) warm_up residuals) ≡ length warm_up + length residuals

abbrev pub LinearRestoredCounts : Type 0
LinearRestoredCounts =
    (set : LinearSet) (warm_up residuals : List ℤ) → length (linear_restored set warm_up residuals) ≡ length warm_up + length residuals

-- the writer's sets can be written, and residuals of its samples have at most 29 bits
abbrev pub BankIsLinear : Type 0
BankIsLinear = (set : LinearSet) → IsOfBank set → IsLinearSet set

abbrev pub FixedIsSmall : Type 0
FixedIsSmall = (order : ℕ) (samples : List ℤ) → order ≤ 4 → AreInside 25 samples → AreInside 29 (fixed_residuals order samples)

abbrev pub LinearIsSmall : Type 0
LinearIsSmall = (set : LinearSet) (samples : List ℤ) → IsOfBank set → AreInside 25 samples → AreInside 29 (linear_residuals set samples)

-- the choice is a candidate with its best parameter, and takes at most eight bits more than the samples themselves
abbrev pub BestIsCandidate : Type 0
BestIsCandidate = (depth : ℕ) (samples : List ℤ) → IsCandidate samples (best_candidate depth samples)

abbrev pub BestIsLight : Type 0
BestIsLight =
    (depth : ℕ) (samples : List ℤ) → candidate_bits depth samples (best_candidate depth samples) ≤ 8 + length samples * depth

-- what least means: one of the list, at a place before which each costs more, and none costs less
abbrev pub ParameterIsBest : Type 0
ParameterIsBest =
    (residuals : List ℤ) → IsFirstLeast (λ parameter. residual_bits parameter residuals) parameters (best_parameter residuals)

abbrev pub CandidateIsBest : Type 0
CandidateIsBest =
    (depth : ℕ) (samples : List ℤ) → IsFirstLeast (candidate_bits depth samples) (candidates samples) (best_candidate depth samples)

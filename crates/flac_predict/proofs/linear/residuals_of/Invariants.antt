use Rattle.std.proofs.Common.{◌≡◌, ◌+◌, ◌<◌, ℕ}
use Rattle.flac_predict.specs.Samples.{sample_at}
use Rattle.flac_predict.specs.Linear.{linear_residual}
use Rattle.flac_predict.proofs.linear.residuals_of.Given as goal

abbrev pub invariant-loop-place : goal.invariant-loop-place
invariant-loop-place l =
    (k : ℕ) → k < l.place → sample_at l.out k ≡ linear_residual l.set l.samples (l.set.order + k)

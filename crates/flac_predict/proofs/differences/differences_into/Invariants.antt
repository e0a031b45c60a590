use Rattle.std.proofs.Common.{◌≡◌, ℕ, ◌<◌}
use Rattle.flac_predict.specs.Samples.{sample_at}
use Rattle.flac_predict.specs.Fixed.{fixed_residuals}
use Rattle.flac_predict.proofs.differences.differences_into.Given as goal

abbrev pub invariant-loop-place : goal.invariant-loop-place
invariant-loop-place g l =
    (k : ℕ) → k < l.place → sample_at l.out k ≡ sample_at (fixed_residuals g.D.Difference.order l.samples) k

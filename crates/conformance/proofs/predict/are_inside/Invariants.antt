use Rattle.std.proofs.Common.{ℕ, ◌<◌}
use Rattle.flac_predict.specs.Samples.{sample_at, IsInside}
use Rattle.conformance.proofs.predict.are_inside.Given as goal

abbrev pub invariant-loop-place : goal.invariant-loop-place
invariant-loop-place l = (k : ℕ) → k < l.place → IsInside l.bits (sample_at l.numbers k)

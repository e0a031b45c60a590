use Rattle.std.proofs.Common.{ℕ, ◌^◌, ◌<◌, pos, neg_ℤ, ◌<ℤ◌}
use Rattle.flac_predict.specs.Samples.{sample_at}
use Rattle.conformance.proofs.predict.are_codable.Given as goal

abbrev pub invariant-loop-place : goal.invariant-loop-place
invariant-loop-place l = (k : ℕ) → k < l.place → neg_ℤ (pos (2 ^ 31)) <ℤ sample_at l.numbers k

use Rattle.std.proofs.Common.{ℕ, ◌<◌}
use Rattle.flac_predict.specs.Samples.{AreInside}
use Rattle.flac_frame.specs.Samples.{channel_of}
use Rattle.conformance.proofs.flac.are_all_inside.Given as goal

abbrev pub invariant-loop-k : goal.invariant-loop-k
invariant-loop-k l = (k : ℕ) → k < l.k → AreInside l.bits (channel_of l.block k)

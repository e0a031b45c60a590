use Rattle.std.proofs.Common.{◌≡◌, ◌++◌}
use Rattle.flac_frame.specs.Samples.{stretches}
use Rattle.flac_frame.specs.Writing.{each_bits}
use Rattle.flac_frame.proofs.encoding.channels.put_each.Given as goal

abbrev pub invariant-loop-k : goal.invariant-loop-k
invariant-loop-k l = l.writer ≡ l.fn.writer ++ each_bits l.bits (stretches l.block.capacity l.block.len l.block.samples l.k)

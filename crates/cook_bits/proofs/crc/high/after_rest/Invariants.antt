use Rattle.std.proofs.Common.{drop}
use Rattle.cook_bits.specs.Crc.{crc_of, highest_first}
use Rattle.cook_bits.proofs.Checks.{IsSoFar}
use Rattle.cook_bits.proofs.crc.high.after_rest.Given as goal

abbrev pub invariant-loop-byte : goal.invariant-loop-byte
invariant-loop-byte l = IsSoFar highest_first 32 0x04C1_1DB7 l.register (drop l.byte-index l.bytes) (crc_of highest_first 32 0x04C1_1DB7 l.fn.register l.bytes)

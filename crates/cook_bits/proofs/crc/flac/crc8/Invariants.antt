use Rattle.std.proofs.Common.{drop}
use Rattle.cook_bits.specs.Crc.{crc_of, highest_first}
use Rattle.cook_bits.proofs.Checks.{IsSoFar}
use Rattle.cook_bits.proofs.crc.flac.crc8.Given as goal

abbrev pub invariant-loop-byte : goal.invariant-loop-byte
invariant-loop-byte l = IsSoFar highest_first 8 0x07 l.register (drop l.byte-index l.bytes) (crc_of highest_first 8 0x07 0 l.bytes)

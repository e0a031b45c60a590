use Rattle.std.proofs.Common.{drop}
use Rattle.cook_bits.specs.Crc.{crc_of, highest_first}
use Rattle.cook_bits.proofs.Checks.{IsSoFar}
use Rattle.cook_bits.proofs.crc.flac.crc16.Given as goal

abbrev pub invariant-loop-byte : goal.invariant-loop-byte
invariant-loop-byte l = IsSoFar highest_first 16 0x8005 l.register (drop l.byte-index l.bytes) (crc_of highest_first 16 0x8005 0 l.bytes)

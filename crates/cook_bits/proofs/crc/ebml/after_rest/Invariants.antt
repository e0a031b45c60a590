use Rattle.std.proofs.Common.{drop}
use Rattle.cook_bits.specs.Crc.{crc_of, lowest_first}
use Rattle.cook_bits.proofs.Checks.{IsSoFar}
use Rattle.cook_bits.proofs.crc.ebml.after_rest.Given as goal

abbrev pub invariant-loop-byte : goal.invariant-loop-byte
invariant-loop-byte l = IsSoFar lowest_first 32 0x04C1_1DB7 l.register (drop l.byte-index l.bytes) (crc_of lowest_first 32 0x04C1_1DB7 l.fn.register l.bytes)

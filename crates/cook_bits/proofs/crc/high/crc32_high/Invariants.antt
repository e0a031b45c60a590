use Rattle.std.proofs.Common.{◌≡◌, length}
use Rattle.cook_bits.specs.Crc.{crc_of, highest_first}
use Rattle.cook_bits.proofs.crc.high.crc32_high.Given as goal

-- what is left of the bytes makes of the register what all of them make of the first one
abbrev pub invariant-loop-rest : goal.invariant-loop-rest
invariant-loop-rest l = crc_of highest_first 32 0x04C1_1DB7 l.register l.rest ≡ crc_of highest_first 32 0x04C1_1DB7 0 l.fn.bytes

abbrev pub decreases-loop-rest : goal.decreases-loop-rest
decreases-loop-rest l = length l.rest

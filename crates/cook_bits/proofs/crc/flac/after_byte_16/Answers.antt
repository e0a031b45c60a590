use Rattle.std.proofs.Common.{arith}
use Rattle.cook_bits.proofs.Registers.{crc16_step}
use Rattle.cook_bits.proofs.crc.flac.after_byte_16.Goals as goal

pub returns : goal.returns
returns c = rw c.from.ensures (crc16_step c.args.register c.args.byte (omega arith) (omega arith))

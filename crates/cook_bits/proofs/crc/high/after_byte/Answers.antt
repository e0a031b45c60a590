use Rattle.std.proofs.Common.{arith}
use Rattle.cook_bits.proofs.Registers.{high_step}
use Rattle.cook_bits.proofs.crc.high.after_byte.Goals as goal

pub returns : goal.returns
returns c = rw c.from.ensures (high_step c.args.register c.args.byte (omega arith) (omega arith))

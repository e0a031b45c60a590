use Rattle.std.proofs.Common.{arith}
use Rattle.cook_bits.proofs.Registers.{ebml_step}
use Rattle.cook_bits.specs.Crc.{ebml_register_after}
use Rattle.cook_bits.proofs.crc.ebml.after_byte.Goals as goal

pub returns : goal.returns
unfolding ebml_register_after
returns c = rw c.from.ensures (ebml_step c.args.register c.args.byte (omega arith) (omega arith))

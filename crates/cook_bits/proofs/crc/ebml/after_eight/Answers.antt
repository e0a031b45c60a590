use Rattle.std.proofs.Common.{arith}
use Rattle.cook_bits.specs.Crc.{ebml_register_after}
use Rattle.cook_bits.proofs.Eights.{ebml_eight}
use Rattle.cook_bits.proofs.crc.ebml.after_eight.Goals as goal

pub returns : goal.returns
unfolding ebml_register_after
returns c = ebml_eight c.args.register c.from_le_bytes.result c.args.eight.now (omega arith) c.from_le_bytes.ensures (λ i. omega (arith, c.type_inv.eight i)) c.requires

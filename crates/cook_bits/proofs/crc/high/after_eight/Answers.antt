use Rattle.std.proofs.Common.{arith}
use Rattle.cook_bits.proofs.Eights.{high_eight}
use Rattle.cook_bits.proofs.crc.high.after_eight.Goals as goal

pub returns : goal.returns
returns c = high_eight c.args.register c.from_be_bytes.result c.args.eight.now (omega arith) c.from_be_bytes.ensures (λ i. omega (arith, c.type_inv.eight i)) c.requires

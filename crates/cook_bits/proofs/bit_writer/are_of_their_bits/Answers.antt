use Rattle.std.proofs.Common.{arith}
use Rattle.cook_bits.proofs.Fields.{bytes_of-bits_of}
use Rattle.cook_bits.proofs.bit_writer.are_of_their_bits.Goals as goal

pub returns : goal.returns
returns c = bytes_of-bits_of c.args.bytes.now (λ i. omega (arith, c.type_inv.bytes i))

use Rattle.std.proofs.Common.{arith}
use Rattle.cook_bits.proofs.Fields.{length_held}
use Rattle.cook_bits.proofs.bit_reader.BitReader.bytes_left.Goals as goal

pub returns : goal.returns
returns c =
    let held = c.self.inside in
    omega (arith, length_held held.word held.held held.rest.now c.args.self.now c.self.view_is)

use Rattle.cook_bits.proofs.UnaryLaws.{to_whole_bytes}
use Rattle.cook_bits.proofs.bit_reader.BitReader.align.Goals as goal

pub returns : goal.returns
returns c =
    let held = c.self.inside in
    to_whole_bytes held.held held.word held.rest.now c.args.self.now c.self.view_is

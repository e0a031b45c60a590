use Rattle.range_coder.proofs.Readers.{bit_below}
use Rattle.range_coder.proofs.decoder.Decoder.get.Goals as goal

pub returns-clause-reads : goal.returns-clause-reads
returns-clause-reads c =
    bit_below _ _ _ _ _ _ _ _ _ c.self.view_is c.requires.live.usable c.self.invariant.2 c.self.invariant.1 c.part-bit.ensures.bit c.part-bit.ensures.below c.part-bit.ensures.range c.renew.ensures

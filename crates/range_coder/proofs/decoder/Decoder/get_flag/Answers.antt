use Rattle.range_coder.proofs.Readers.{one_below, zero_below}
use Rattle.range_coder.proofs.decoder.Decoder.get_flag.Goals as goal

pub returns-then-below-ones-clause-reads : goal.returns-then-below-ones-clause-reads
returns-then-below-ones-clause-reads c =
    one_below _ _ _ _ _ _ _ c.self.view_is c.requires.live.usable c.self.invariant.2 c.from.ensures c.if-below-ones.true c.renew.ensures

pub returns-else-below-ones-clause-reads : goal.returns-else-below-ones-clause-reads
returns-else-below-ones-clause-reads c =
    zero_below _ _ _ _ _ _ _ c.self.view_is c.requires.live.usable c.self.invariant.2 c.self.invariant.1 c.from.ensures c.if-below-ones.false c.renew-else-below-ones.ensures

use Rattle.std.proofs.Common.{refl}
use Rattle.range_coder.proofs.Symbols.{no_ones_got, one_got, exponent_got}
use Rattle.range_coder.proofs.getting.get_exponent.Goals as goal

pub loop-count-init : goal.loop-count-init
loop-count-init c = no_ones_got _ _ _ c.requires.live

pub returns-then-not-get_more-clause-ok : goal.returns-then-not-get_more-clause-ok
returns-then-not-get_more-clause-ok c =
    exponent_got _ _ _ _ _ _ _ _ _ _ c.loop-count.invariant refl c.if-not-get_more.true c.get_more.ensures.gets

pub loop-count-preserved : goal.loop-count-preserved
loop-count-preserved c =
    one_got _ _ _ _ _ _ _ _ _ _ c.loop-count.invariant refl c.if-not-get_more.false c.get_more.ensures.gets c.get_more.ensures.live

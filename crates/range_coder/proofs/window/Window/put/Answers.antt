use Rattle.range_coder.proofs.Windows.{top_by_byte, top_within}
use Rattle.range_coder.proofs.window.Window.put.Goals as goal

pub returns-in_ok-push_digit-clause-ok : goal.returns-in_ok-push_digit-clause-ok
returns-in_ok-push_digit-clause-ok c =
    top_by_byte _ _ _ _ _ _ _ _ c.requires.live.usable c.requires.window.least c.requires.window.inside c.part-top.ensures.top c.part-top.ensures.range c.if-range-lt256.true c.in_ok-push_digit.ensures.len c.in_ok-push_digit.ensures.number

pub returns-else-range-lt256-clause-ok : goal.returns-else-range-lt256-clause-ok
returns-else-range-lt256-clause-ok c =
    top_within _ _ _ _ _ _ _ c.requires.live.usable c.requires.window.least c.requires.window.inside c.part-top.ensures.top c.part-top.ensures.range c.if-range-lt256.false

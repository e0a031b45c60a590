use Rattle.ffv1_frame.proofs.SettleLaws.{ok-tiles, ok-pixels}
use Rattle.ffv1_frame.proofs.cutting.cut.Goals as goal

pub returns-else-is_err-clause-tiles : goal.returns-else-is_err-clause-tiles
returns-else-is_err-clause-tiles c =
    ok-tiles c.args.params.now c.args.grid.now c.args.bytes.now c.cut_whole-cut.new.parts.items c.cut_whole-cut.result c.requires.grid c.cut_whole-cut.ensures.ok

pub returns-else-is_err-clause-pixels : goal.returns-else-is_err-clause-pixels
returns-else-is_err-clause-pixels c =
    ok-pixels c.args.params.now c.args.grid.now c.args.bytes.now c.cut_whole-cut.new.parts.items c.cut_whole-cut.result c.requires.grid c.cut_whole-cut.ensures.ok

use Rattle.ffv1_frame.proofs.SettleLaws.{settled-in, settled, settled-not}
use Rattle.ffv1_frame.proofs.cutting.settle.Goals as goal

pub covers_once-requires-clause-inside : goal.covers_once-requires-clause-inside
covers_once-requires-clause-inside c =
    settled-in c.args.params.now c.args.grid.now c.args.bytes.now c.reverse.new.self c.read_heads.new.parts c.requires.grid c.in_default.ensures.ok

pub returns-then-covers_once-clause-ok : goal.returns-then-covers_once-clause-ok
returns-then-covers_once-clause-ok c =
    settled c.args.params.now c.args.grid.now c.args.bytes.now c.args.parts.now c.reverse.new.self c.read_heads.new.parts c.reverse.ensures.after c.in_default.ensures.ok c.if-covers_once.ensures.covered

pub returns-else-covers_once-clause-err : goal.returns-else-covers_once-clause-err
returns-else-covers_once-clause-err c =
    settled-not c.args.params.now c.args.grid.now c.args.bytes.now c.args.parts.now c.reverse.new.self c.read_heads.new.parts c.reverse.ensures.after c.in_default.ensures.ok c.if-covers_once.ensures.other

use Rattle.std.proofs.Common.{length, map, rules, arith}
use Rattle.ffv1_frame.specs.Parts.{cells_of_part}
use Rattle.ffv1_frame.proofs.Marking.{counts-none, counts-more_part, counts-all_parts, covered-twice_part, all-once, not-all-once, boxes-inside}
use Rattle.ffv1_frame.proofs.cover.mark_all.Goals as goal

pub loop-i-init : goal.loop-i-init
loop-i-init c = counts-none c.args.grid.now.columns (length c.args.marks.now) c.fill.new.self (map cells_of_part c.args.parts.now) (search rules)

pub loop-i-preserved : goal.loop-i-preserved
loop-i-preserved c =
    counts-more_part c.args.grid.now.columns c.loop-i.i c.args.parts.now _ c.loop-i.marks c.mark_box.new.marks c.loop-i-test.true c.loop-i.invariant c.if-not-mark_box.ensures.marked

pub returns-then-not-mark_box-clause-other : goal.returns-then-not-mark_box-clause-other
returns-then-not-mark_box-clause-other c =
    covered-twice_part c.args.grid.now.columns c.args.grid.now.rows c.loop-i.i c.args.parts.now _ c.loop-i.marks c.loop-i-test.true c.loop-i.invariant c.if-not-mark_box.ensures.taken

pub returns-clause-covered : goal.returns-clause-covered
returns-clause-covered c =
    all-once c.args.grid.now.columns c.args.grid.now.rows (map cells_of_part c.args.parts.now) c.loop-i.marks c.are_marked.result
    (boxes-inside c.args.grid.now c.args.parts.now c.requires.inside)
    (omega arith)
    (counts-all_parts c.args.grid.now.columns c.loop-i.i c.args.parts.now c.loop-i.marks c.loop-i-test.false c.loop-i.invariant)
    c.are_marked.ensures

pub returns-clause-other : goal.returns-clause-other
returns-clause-other c =
    not-all-once c.args.grid.now.columns c.args.grid.now.rows (map cells_of_part c.args.parts.now) c.loop-i.marks c.are_marked.result
    c.requires.grid.columns_some
    (omega arith)
    (counts-all_parts c.args.grid.now.columns c.loop-i.i c.args.parts.now c.loop-i.marks c.loop-i-test.false c.loop-i.invariant)
    c.are_marked.ensures

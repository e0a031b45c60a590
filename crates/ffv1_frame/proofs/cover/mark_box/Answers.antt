use Rattle.ffv1_frame.specs.Grid.{cells_of}
use Rattle.ffv1_frame.proofs.Marking.{box-more, box-taken}
use Rattle.ffv1_frame.proofs.cover.mark_box.Goals as goal

pub loop-row-preserved : goal.loop-row-preserved
loop-row-preserved c =
    box-more c.args.grid.now.columns c.loop-row.row _ _ (cells_of c.args.head.now) c.args.marks.now c.loop-row.marks c.mark_span.new.marks
    c.requires.head.across c.loop-row.invariant c.row_span-from.ensures.from c.row_span-from.ensures.to c.if-not-mark_span.ensures.marked

pub returns-then-not-mark_span-clause-taken : goal.returns-then-not-mark_span-clause-taken
returns-then-not-mark_span-clause-taken c =
    box-taken c.args.grid.now.columns c.loop-row.row _ _ (cells_of c.args.head.now) c.args.marks.now c.loop-row.marks
    c.requires.head.across c.loop-row-test.true c.loop-row.invariant c.row_span-from.ensures.from c.row_span-from.ensures.to c.if-not-mark_span.ensures.taken

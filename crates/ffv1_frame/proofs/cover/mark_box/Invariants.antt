use Rattle.ffv1_frame.specs.Grid.{cells_of}
use Rattle.ffv1_frame.proofs.Marking.{MarksLines}
use Rattle.ffv1_frame.proofs.cover.mark_box.Given as goal

-- the rows so far are marked
abbrev pub invariant-loop-row : goal.invariant-loop-row
invariant-loop-row l = MarksLines l.grid.columns (cells_of l.head) l.row l.fn.marks l.marks

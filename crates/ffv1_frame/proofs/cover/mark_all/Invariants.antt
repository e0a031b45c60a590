use Rattle.std.proofs.Common.{map, take}
use Rattle.ffv1_frame.specs.Marks.{Counts}
use Rattle.ffv1_frame.specs.Parts.{cells_of_part}
use Rattle.ffv1_frame.proofs.cover.mark_all.Given as goal

-- the marks count the slices so far
abbrev pub invariant-loop-i : goal.invariant-loop-i
invariant-loop-i l = Counts l.grid.columns l.marks (take l.i (map cells_of_part l.parts))

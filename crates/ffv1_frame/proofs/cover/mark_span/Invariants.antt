use Rattle.ffv1_frame.specs.Marks.{MarksSpan}
use Rattle.ffv1_frame.proofs.cover.mark_span.Given as goal

-- the places so far are marked
abbrev pub invariant-loop-k : goal.invariant-loop-k
invariant-loop-k l = MarksSpan l.from l.k l.fn.marks l.marks

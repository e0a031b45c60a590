use Rattle.ffv1_frame.proofs.CutLaws.{SoFar}
use Rattle.ffv1_frame.proofs.cutting.split.Given as goal

-- the slices behind the end are cut off
abbrev pub invariant-loop-end : goal.invariant-loop-end
invariant-loop-end l = SoFar l.bytes l.ec l.most l.parts.items l.end

abbrev pub decreases-loop-end : goal.decreases-loop-end
decreases-loop-end l = l.end

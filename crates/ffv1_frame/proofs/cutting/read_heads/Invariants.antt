use Rattle.ffv1_frame.proofs.HeadLaws.{FirstRead}
use Rattle.ffv1_frame.proofs.cutting.read_heads.Given as goal

-- the heads so far are read
abbrev pub invariant-loop-i : goal.invariant-loop-i
invariant-loop-i l = FirstRead l.params l.bytes l.fn.parts l.i l.parts

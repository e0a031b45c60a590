use Rattle.ffv1_workers.specs.Frames.{AreHeadsBelow}
use Rattle.ffv1_workers.proofs.decoded.first_fault.Given as goal

-- the answers so far are heads
abbrev pub invariant-loop-i : goal.invariant-loop-i
invariant-loop-i l = record { heads : AreHeadsBelow l.answers l.i }

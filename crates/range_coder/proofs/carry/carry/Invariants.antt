use Rattle.range_coder.proofs.Carries.{Carried}
use Rattle.range_coder.proofs.carry.carry.Given as goal

-- a one is still to be added at this place
abbrev pub invariant-loop-at : goal.invariant-loop-at
invariant-loop-at l = Carried l.initial.bytes l.end l.bytes l.at

abbrev pub decreases-loop-at : goal.decreases-loop-at
decreases-loop-at l = l.at

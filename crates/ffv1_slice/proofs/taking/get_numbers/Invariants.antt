use Rattle.ffv1_slice.specs.Taking.{NumbersRead}
use Rattle.ffv1_slice.proofs.taking.get_numbers.Given as goal

abbrev pub invariant-loop-at : goal.invariant-loop-at
invariant-loop-at l =
    NumbersRead l.params l.initial.decoder l.initial.states l.decoder l.states l.numbers l.at

use Rattle.range_coder.specs.Table.{AreLive}
use Rattle.conformance.proofs.coder.numbers.Given as goal

abbrev pub invariant-loop-at : goal.invariant-loop-at
invariant-loop-at l = AreLive l.table l.states

use Rattle.range_coder.specs.Table.{AreLive}
use Rattle.conformance.proofs.coder.symbols.Given as goal

abbrev pub invariant-loop-value : goal.invariant-loop-value
invariant-loop-value l = AreLive l.table l.states

use Rattle.ffv1_params.specs.Reading.{table}
use Rattle.ffv1_params.specs.QuantTables.{IsTable}
use Rattle.ffv1_params.proofs.RepeatLaws.{Repeating}
use Rattle.ffv1_params.proofs.sets.tables_of.Given as goal

abbrev pub invariant-loop : goal.invariant-loop
invariant-loop l = Repeating l.fn.fields l.fields table IsTable l.tables.items 5 l.counter

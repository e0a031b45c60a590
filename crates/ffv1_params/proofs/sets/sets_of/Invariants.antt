use Rattle.ffv1_params.specs.Reading.{table_set}
use Rattle.ffv1_params.specs.QuantTables.{TellsContexts}
use Rattle.ffv1_params.proofs.RepeatLaws.{Repeating}
use Rattle.ffv1_params.proofs.sets.sets_of.Given as goal

abbrev pub invariant-loop : goal.invariant-loop
invariant-loop l = Repeating l.fn.fields l.fields table_set TellsContexts l.sets.items l.count l.counter

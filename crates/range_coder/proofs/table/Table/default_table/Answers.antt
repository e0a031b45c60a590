use Rattle.std.proofs.Common.{refl}
use Rattle.range_coder.specs.DefaultTable.{default_one_states}
use Rattle.range_coder.proofs.Tables.{closed_by_test, table_by_test, live_between}
use Rattle.range_coder.proofs.table.Table.default_table.Goals as goal

pub invariant_of-result : goal.invariant_of-result
invariant_of-result c = table_by_test _ _ refl refl

pub returns-clause-table : goal.returns-clause-table
unfolding default_one_states
returns-clause-table c = refl

pub returns-clause-closed : goal.returns-clause-closed
returns-clause-closed c = closed_by_test _ refl

pub returns-clause-live : goal.returns-clause-live
returns-clause-live c = live_between _ refl

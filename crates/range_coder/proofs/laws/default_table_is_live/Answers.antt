use Rattle.std.proofs.Common.{refl}
use Rattle.range_coder.specs.DefaultTable.{default_one_states}
use Rattle.range_coder.proofs.Tables.{closed_by_test, live_between}
use Rattle.range_coder.proofs.laws.default_table_is_live.Goals as goal

pub returns : goal.returns
unfolding default_one_states
returns c = record { closed = closed_by_test _ refl; live = live_between _ refl }

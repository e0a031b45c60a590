use Rattle.ffv1_slice.specs.Storing.{RowStored}
use Rattle.ffv1_slice.proofs.store.store_row.Given as goal

abbrev pub invariant-loop-x : goal.invariant-loop-x
invariant-loop-x l = RowStored l.half l.green_based l.luma l.blue l.red l.initial.tile l.tile l.at l.x

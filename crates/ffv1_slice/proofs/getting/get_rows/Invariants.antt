use Rattle.ffv1_slice.proofs.RowsRead.{RowsHeld}
use Rattle.ffv1_slice.proofs.getting.get_rows.Given as goal

abbrev pub invariant-loop-y : goal.invariant-loop-y
invariant-loop-y l =
    RowsHeld l.params l.head l.half l.width l.initial.decoder l.initial.states l.decoder l.states l.initial.planes l.planes l.tile l.y

use Rattle.ffv1_slice.specs.Colour.{samples_of}
use Rattle.ffv1_slice.proofs.Encoding.{RowsPut}
use Rattle.ffv1_slice.proofs.writing.put_rows.Given as goal

abbrev pub invariant-loop-y : goal.invariant-loop-y
invariant-loop-y l =
    RowsPut l.params l.head l.width (samples_of l.params.bits l.width l.tile) l.initial.encoder l.initial.states l.encoder l.states l.planes l.half l.y

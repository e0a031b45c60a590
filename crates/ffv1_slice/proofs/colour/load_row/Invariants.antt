use Rattle.ffv1_slice.specs.Loading.{AreSamples}
use Rattle.ffv1_slice.proofs.colour.load_row.Given as goal

abbrev pub invariant-loop-x : goal.invariant-loop-x
invariant-loop-x l =
    AreSamples l.half l.green_based l.pixels 0 l.x l.initial.luma l.luma
    × AreSamples l.half l.green_based l.pixels 1 l.x l.initial.blue l.blue
    × AreSamples l.half l.green_based l.pixels 2 l.x l.initial.red l.red

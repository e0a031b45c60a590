use Rattle.ffv1_slice.specs.Work.{ArePlacedSamples}
use Rattle.ffv1_slice.proofs.place.place_line.Given as goal

abbrev pub invariant-loop-x : goal.invariant-loop-x
invariant-loop-x l = ArePlacedSamples l.half l.values l.first l.above2 l.above l.line l.symbols l.x

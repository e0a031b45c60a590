use Rattle.ffv1_slice.specs.Got.{GetsSamples}
use Rattle.ffv1_slice.proofs.reading.decode_samples.Given as goal

abbrev pub invariant-loop-x : goal.invariant-loop-x
invariant-loop-x l =
    GetsSamples l.table l.initial.decoder l.initial.states l.decoder l.states l.half l.values l.first l.above2 l.above l.line l.x

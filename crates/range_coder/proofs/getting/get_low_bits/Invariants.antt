use Rattle.range_coder.proofs.LowBits.{HasGotBits}
use Rattle.range_coder.proofs.getting.get_low_bits.Given as goal

abbrev pub invariant-loop-place : goal.invariant-loop-place
invariant-loop-place l =
    HasGotBits l.table l.initial.decoder l.initial.set l.decoder l.set l.exponent l.magnitude l.place

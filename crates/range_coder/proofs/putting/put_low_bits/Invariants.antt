use Rattle.range_coder.specs.Held.{held}
use Rattle.range_coder.specs.Encoding.{IsWindow}
use Rattle.range_coder.proofs.LowBits.{HasPutBits}
use Rattle.range_coder.proofs.putting.put_low_bits.Given as goal

abbrev pub invariant-loop-place : goal.invariant-loop-place
invariant-loop-place l =
    HasPutBits l.table (held l.initial.window l.initial.bytes) l.initial.set (held l.window l.bytes) l.set l.exponent l.magnitude l.place × IsWindow l.bytes.items l.window.top l.window.range

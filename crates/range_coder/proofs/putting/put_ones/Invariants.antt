use Rattle.range_coder.specs.Symbol.{ones}
use Rattle.range_coder.specs.Held.{held}
use Rattle.range_coder.specs.Encoding.{IsWindow}
use Rattle.range_coder.proofs.Symbols.{HasPut}
use Rattle.range_coder.proofs.putting.put_ones.Given as goal

abbrev pub invariant-loop-k : goal.invariant-loop-k
invariant-loop-k l =
    HasPut l.table (held l.initial.window l.initial.bytes) l.initial.set (held l.window l.bytes) l.set (ones l.k) × IsWindow l.bytes.items l.window.top l.window.range

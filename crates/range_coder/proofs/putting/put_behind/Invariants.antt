use Rattle.range_coder.specs.Symbol.{ones}
use Rattle.range_coder.specs.Held.{held}
use Rattle.range_coder.specs.Encoding.{IsWindow}
use Rattle.range_coder.proofs.Symbols.{HasPut}
use Rattle.range_coder.proofs.putting.put_behind.Given as goal

abbrev pub invariant-loop-count : goal.invariant-loop-count
invariant-loop-count l =
    HasPut l.table (held l.fn.window l.fn.bytes) l.fn.set (held l.window l.bytes) l.set (ones l.count) × IsWindow l.bytes.items l.window.top l.window.range

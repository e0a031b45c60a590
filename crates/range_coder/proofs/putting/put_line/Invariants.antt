use Rattle.std.proofs.Common.{take}
use Rattle.range_coder.specs.Held.{held}
use Rattle.range_coder.specs.Encoding.{IsWindow}
use Rattle.range_coder.specs.Placing.{placed_symbols}
use Rattle.range_coder.proofs.Symbols.{HasPut}
use Rattle.range_coder.proofs.putting.put_line.Given as goal

abbrev pub invariant-loop-symbol : goal.invariant-loop-symbol
invariant-loop-symbol l =
    HasPut l.table (held l.initial.window l.initial.bytes) l.initial.states (held l.window l.bytes) l.states (placed_symbols l.signed (take l.symbol-index l.symbols)) × IsWindow l.bytes.items l.window.top l.window.range

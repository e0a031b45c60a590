use Rattle.range_coder.specs.Symbol.{ones}
use Rattle.range_coder.proofs.Symbols.{HasGot}
use Rattle.range_coder.proofs.getting.get_usual.Given as goal

abbrev pub invariant-loop-many : goal.invariant-loop-many
invariant-loop-many l = HasGot l.table l.fn.decoder l.fn.set l.decoder l.set (ones l.many)

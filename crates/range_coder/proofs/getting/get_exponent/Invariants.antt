use Rattle.range_coder.specs.Symbol.{ones}
use Rattle.range_coder.proofs.Symbols.{HasGot}
use Rattle.range_coder.proofs.getting.get_exponent.Given as goal

abbrev pub invariant-loop-count : goal.invariant-loop-count
invariant-loop-count l = HasGot l.table l.fn.decoder l.fn.set l.decoder l.set (ones l.count)

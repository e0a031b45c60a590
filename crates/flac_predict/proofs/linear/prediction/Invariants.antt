use Rattle.std.proofs.Common.{◌≡◌}
use Rattle.flac_predict.specs.Linear.{weighted}
use Rattle.flac_predict.proofs.linear.prediction.Given as goal

abbrev pub invariant-loop-count : goal.invariant-loop-count
invariant-loop-count l = l.sum ≡ weighted l.count l.set.coefficients l.samples l.place

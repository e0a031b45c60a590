use Rattle.std.proofs.Common.{◌++◌}
use Rattle.flac_predict.specs.Choice.{constant_offer, fixed_offers, linear_offers}
use Rattle.flac_predict.specs.Weighing.{Holds}
use Rattle.flac_predict.proofs.choosing.with_linear.Given as goal

abbrev pub invariant-loop-before : goal.invariant-loop-before
invariant-loop-before l =
    Holds l.bits l.samples l.held (constant_offer l.samples ++ fixed_offers l.samples 5 ++ linear_offers l.samples l.before)

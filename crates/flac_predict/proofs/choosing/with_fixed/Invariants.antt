use Rattle.std.proofs.Common.{◌++◌}
use Rattle.flac_predict.specs.Choice.{constant_offer, fixed_offers}
use Rattle.flac_predict.specs.Weighing.{Holds}
use Rattle.flac_predict.proofs.choosing.with_fixed.Given as goal

abbrev pub invariant-loop-order : goal.invariant-loop-order
invariant-loop-order l =
    Holds l.bits l.samples l.held (constant_offer l.samples ++ fixed_offers l.samples l.order)

use Rattle.std.proofs.Common.{◌≡◌, ◌<◌, ◌^◌}
use Rattle.flac_predict.specs.Rice.{residual_bits}
use Rattle.flac_predict.proofs.rice.climbed.Given as goal

abbrev pub invariant-loop-at : goal.invariant-loop-at
invariant-loop-at l = record {
  bits : l.bits ≡ residual_bits l.at l.residuals;
  most : l.bits < 2 ^ 46;
}

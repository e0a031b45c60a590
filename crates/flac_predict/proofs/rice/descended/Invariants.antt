use Rattle.std.proofs.Common.{◌≡◌, ◌≤◌, ◌<◌, ◌^◌, suc}
use Rattle.flac_predict.specs.Rice.{residual_bits}
use Rattle.flac_predict.proofs.rice.descended.Given as goal

abbrev pub invariant-loop-at : goal.invariant-loop-at
invariant-loop-at l = record {
  within : l.at ≤ 30;
  most : l.bits < 2 ^ 46;
  bits : l.bits ≡ residual_bits l.at l.residuals;
  up : l.at < 30 → residual_bits l.at l.residuals ≤ residual_bits (suc l.at) l.residuals;
}

abbrev pub decreases-loop-at : goal.decreases-loop-at
decreases-loop-at l = l.at

use Rattle.std.proofs.Common.{◌≡◌, ◌+◌, ◌≤◌, ◌*◌, take}
use Rattle.std.specs.List.{sum_by}
use Rattle.flac_predict.specs.Rice.{quotient}
use Rattle.flac_predict.proofs.rice.shifted_sum.Given as goal

abbrev pub invariant-loop-residual : goal.invariant-loop-residual
invariant-loop-residual l = record {
  sum : l.high * 65536 + l.low ≡ sum_by (quotient l.parameter) (take l.residual-index l.residuals);
  low : l.low ≤ 65535 * l.residual-index;
  high : l.high ≤ 65535 * l.residual-index;
}

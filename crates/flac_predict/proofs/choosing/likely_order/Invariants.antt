use Rattle.std.proofs.Common.{◌≤◌, ◌<◌, length}
use Rattle.flac_predict.proofs.choosing.likely_order.Given as goal

abbrev pub invariant-loop-order : goal.invariant-loop-order
invariant-loop-order l = record {
  order : l.likely ≤ 4;
  enough : l.likely < length l.samples;
}

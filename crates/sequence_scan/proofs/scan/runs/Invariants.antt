use Rattle.std.proofs.Common.{◌≡◌}
use Rattle.sequence_scan.specs.Scanning.{AreLastBelow, runs_below}
use Rattle.sequence_scan.proofs.scan.runs.Given as goal

abbrev pub invariant-loop-place : goal.invariant-loop-place
invariant-loop-place l = record {
  runs : l.runs.items ≡ runs_below l.names l.place;
  last : AreLastBelow l.names l.place l.last;
}

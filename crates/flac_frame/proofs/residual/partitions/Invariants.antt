use Rattle.std.proofs.Common.{◌≡◌, ◌+◌, ◌*◌, ◌-◌, ◌≤◌, take}
use Rattle.flac_frame.specs.Residual.{partitions_at}
use Rattle.flac_frame.proofs.EachLaws.{with_front}
use Rattle.flac_frame.proofs.residual.partitions.Given as goal

abbrev pub invariant-loop : goal.invariant-loop
invariant-loop l = record {
  read : with_front (take l.at l.out) (partitions_at l.width l.size l.skipped (l.count - l.counter) l.reader) ≡ partitions_at l.width l.size l.warm_up l.count l.fn.reader;
  place : l.at + l.warm_up ≡ l.counter * l.size + l.skipped;
  within : l.skipped ≤ l.size;
}

use Rattle.std.proofs.Common.{◌≤◌, ◌-◌}
use Rattle.shelf_reader.specs.Keeping.{known, Keeps}
use Rattle.shelf_reader.specs.Seen.{Sees}
use Rattle.matroska_read.proofs.ChecksumLaws.{register_between}
use Rattle.matroska_read.proofs.checksum.checksum_between.Given as goal

abbrev pub invariant-loop-at : goal.invariant-loop-at
invariant-loop-at g l = record {
  low : l.fn.from ≤ l.at;
  high : l.at ≤ l.to;
  kept : Keeps g.S.Shelf l.fn.reader l.reader;
  so_far : Sees (known g.S.Shelf l.fn.reader) (register_between l.fn.from l.at) l.checksum;
}

abbrev pub decreases-loop-at : goal.decreases-loop-at
decreases-loop-at g l = l.to - l.at

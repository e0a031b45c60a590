use Rattle.std.proofs.Common.{◌≡◌, take}
use Rattle.matroska_write.specs.Tracks.{entries_from}
use Rattle.matroska_write.proofs.entries.numbered_entries.Given as goal

abbrev pub invariant-loop-track : goal.invariant-loop-track
invariant-loop-track l = record {
  numbered : l.number ≡ l.track-index;
  written : l.out ≡ entries_from 1 (take l.track-index l.entries);
}

use Rattle.std.proofs.Common.{◌≡◌, ◌≤◌, ◌-◌}
use Rattle.shelf_reader.specs.Seen.{Agree}
use Rattle.shelf_reader.specs.Walk.{walked}
use Rattle.wav_chunks.specs.Formed.{IsSeen}
use Rattle.wav_chunks.specs.WaveParts.{riff, visit_chunk, wave_walked}
use Rattle.wav_chunks.specs.Window.{known, Keeps}
use Rattle.wav_chunks.proofs.chunks.walk.Given as goal

abbrev pub invariant-loop-at : goal.invariant-loop-at
invariant-loop-at g l = record {
  within : l.at ≤ l.end;
  end : l.end ≡ l.fn.reader.len;
  seen : IsSeen l.fn.reader.len l.seen;
  kept : Keeps g.S.Shelf l.fn.reader l.reader;
  so_far : Agree (known g.S.Shelf l.fn.reader) (wave_walked l.fn.reader.len) (walked riff (visit_chunk l.fn.reader.len) l.fn.reader.len l.seen l.at);
}

abbrev pub decreases-loop-at : goal.decreases-loop-at
decreases-loop-at g l = l.end - l.at

use Rattle.std.proofs.Common.{◌≡◌, ◌-◌, ◌<◌, ◌≤◌, length, take}
use Rattle.md5.specs.Md5.{Holds}
use Rattle.shelf_core.specs.Reads.{Tells, OnlyReads}
use Rattle.shelf_parts.specs.Parts.{part_on, file_len}
use Rattle.shelf_parts.proofs.parts.sum_part.Given as goal

abbrev pub invariant-loop-done : goal.invariant-loop-done
invariant-loop-done g l = record {
  within : l.done ≤ l.part.len;
  room : 0 < length l.buffer;
  kept : OnlyReads g.S.Shelf l.fn.shelf l.shelf;
  inside : Tells g.S.Shelf l.fn.shelf → l.done ≤ file_len g.S.Shelf l.fn.shelf l.part - l.part.at;
  first : l.part.len ≤ length l.buffer → 0 < l.done → l.part.len ≤ l.done;
  held : l.part.len ≤ length l.buffer → Tells g.S.Shelf l.fn.shelf → take l.done l.buffer ≡ take l.done (part_on g.S.Shelf l.fn.shelf l.part);
  sum : Tells g.S.Shelf l.fn.shelf → Holds l.hasher (take l.done (part_on g.S.Shelf l.fn.shelf l.part));
}

abbrev pub decreases-loop-done : goal.decreases-loop-done
decreases-loop-done g l = l.part.len - l.done

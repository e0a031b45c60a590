use Rattle.std.proofs.Common.{◌-◌, ◌<◌, ◌≤◌, length, take}
use Rattle.md5.specs.Md5.{Holds}
use Rattle.shelf_core.specs.Reads.{Tells}
use Rattle.shelf_core.specs.Writes.{Grew}
use Rattle.shelf_parts.specs.Parts.{part_on}
use Rattle.shelf_parts.proofs.parts.copy_part.Given as goal

abbrev pub invariant-loop-done : goal.invariant-loop-done
invariant-loop-done g l = record {
  within : l.done ≤ l.part.len;
  room : 0 < length l.buffer;
  grew : Grew g.S.Shelf l.fn.shelf l.shelf l.to (take l.done (part_on g.S.Shelf l.fn.shelf l.part));
  sum : Tells g.S.Shelf l.fn.shelf → Holds l.hasher (take l.done (part_on g.S.Shelf l.fn.shelf l.part));
}

abbrev pub decreases-loop-done : goal.decreases-loop-done
decreases-loop-done g l = l.part.len - l.done

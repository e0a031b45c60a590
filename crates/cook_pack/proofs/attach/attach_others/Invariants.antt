use Rattle.std.proofs.Common.{◌≡◌, ◌+◌, ◌<◌, length, take}
use Rattle.shelf_core.specs.Writes.{Grew}
use Rattle.cook_pack.specs.Attaching.{AreRecordsOf, files_on}
use Rattle.cook_pack.specs.Package.{attached_from}
use Rattle.cook_pack.proofs.attach.attach_others.Given as goal

abbrev pub invariant-loop-file : goal.invariant-loop-file
invariant-loop-file g l = record {
  room : 0 < length l.buffer;
  numbered : l.uid ≡ l.file-index + 1;
  grew : Grew g.S.Shelf l.fn.shelf l.shelf l.to (attached_from 1 (take l.file-index (files_on g.S.Shelf l.fn.shelf l.plan)));
  records : AreRecordsOf g.S.Shelf l.fn.shelf (take l.file-index (files_on g.S.Shelf l.fn.shelf l.plan)) l.records.items;
}

use Rattle.std.proofs.Common.{◌≤◌, ◌-◌, ◌*◌, ◌^◌, length}
use Rattle.shelf_core.specs.Reads.{CountsStay}
use Rattle.cook_top.specs.Restoring.{SealsAll}
use Rattle.cook_top.proofs.GivingLaws.{IsUnderWay}
use Rattle.cook_top.proofs.restore.restore_files.Given as goal

abbrev pub invariant-loop-file : goal.invariant-loop-file
invariant-loop-file g l = record {
  way : IsUnderWay (g.S.Shelf.files l.fn.shelf) (g.S.Shelf.files l.shelf) l.pkg l.dir l.restorer l.sum;
  small : l.sum.bytes ≤ l.sum.files * 2 ^ 64;
  sealed : SealsAll g.S.Shelf l.fn.shelf l.shelf;
  counts : CountsStay g.S.Shelf l.fn.shelf l.shelf;
}

abbrev pub decreases-loop-file : goal.decreases-loop-file
decreases-loop-file g l = length l.restorer.records.items - l.restorer.number

use Rattle.shelf_core.specs.Reads.{OnlyReads, Tells}
use Rattle.cook_pack.specs.Planned.{directory_of}
use Rattle.cook_pack.proofs.PlanLaws.{Passed, Followed}
use Rattle.cook_pack.proofs.planning.admitted_files.Given as goal

abbrev pub invariant-loop-index : goal.invariant-loop-index
invariant-loop-index g l = record {
  passed : Passed l.entries l.files.items l.total l.index;
  followed : Tells g.S.Shelf l.fn.shelf → Followed (directory_of g.S.Shelf l.fn.shelf l.root) l.files.items l.index;
  only : OnlyReads g.S.Shelf l.fn.shelf l.shelf;
}

use Rattle.std.proofs.Common.{◌≡◌}
use Rattle.name_tree.specs.Held.{left_count}
use Rattle.shelf_core.specs.Reads.{OnlyReads}
use Rattle.cook_restore.proofs.folders.make_folders.Given as goal

abbrev pub invariant-left : goal.invariant-left
invariant-left g l = record { kept : OnlyReads g.S.Shelf l.fn.shelf l.shelf; same : l.names.names ≡ l.fn.names.names }

abbrev pub decreases-left : goal.decreases-left
decreases-left g l = left_count l.names.given l.name

use Rattle.std.proofs.Common.{◌≡◌, take}
use Rattle.reversal.specs.SideData.{names_of}
use Rattle.cook_restore.proofs.folders.tree_of.Given as goal

abbrev pub invariant-loop-said : goal.invariant-loop-said
invariant-loop-said l = l.names.names ≡ names_of (take l.said-index l.records)

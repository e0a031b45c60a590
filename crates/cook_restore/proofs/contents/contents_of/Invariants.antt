use Rattle.std.proofs.Common.{◌≡◌, take}
use Rattle.cook_restore.specs.Contents.{content_places}
use Rattle.cook_restore.proofs.contents.contents_of.Given as goal

abbrev pub invariant-loop-said : goal.invariant-loop-said
invariant-loop-said l = l.contents.items ≡ content_places l.files (take l.said-index l.records)

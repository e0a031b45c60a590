use Rattle.cook_restore.proofs.PlainLaws.{SoFar}
use Rattle.cook_restore.proofs.plain.film_place.Given as goal

abbrev pub invariant-loop-said : goal.invariant-loop-said
invariant-loop-said l = SoFar l.records l.said-index l.place

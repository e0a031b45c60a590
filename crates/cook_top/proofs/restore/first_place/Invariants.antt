use Rattle.std.specs.List.{IsFirstBest}
use Rattle.cook_top.specs.Restoring.{is_below}
use Rattle.cook_top.proofs.restore.first_place.Given as goal

abbrev pub invariant-loop-index : goal.invariant-loop-index
invariant-loop-index l = IsFirstBest is_below l.entries l.index l.first

use Rattle.std.proofs.Common.{length, ◌-◌}
use Rattle.name_tree.specs.Searching.{IsOnWay, IsChildOrNone}
use Rattle.name_tree.proofs.search.deepest.Given as goal

abbrev pub invariant-loop-end : goal.invariant-loop-end
invariant-loop-end l = record { way : IsOnWay l.names l.nodes l.name l.spot.parent; near : IsChildOrNone l.nodes l.spot.parent l.spot.near }

abbrev pub decreases-loop-end : goal.decreases-loop-end
decreases-loop-end l = length l.nodes - l.spot.parent

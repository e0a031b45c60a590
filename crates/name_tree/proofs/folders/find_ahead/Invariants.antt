use Rattle.std.proofs.Common.{length, ◌-◌}
use Rattle.name_tree.specs.Searching.{IsChildOrNone, IsOnWay}
use Rattle.name_tree.specs.Giving.{IsGivenTo}
use Rattle.name_tree.proofs.folders.find_ahead.Given as goal

abbrev pub invariant-down : goal.invariant-down
invariant-down l = record { way : IsOnWay l.names l.nodes l.name l.spot.parent; near : IsChildOrNone l.nodes l.spot.parent l.spot.near; given : IsGivenTo l.nodes l.spot.parent }

abbrev pub decreases-down : goal.decreases-down
decreases-down l = length l.nodes - l.spot.parent

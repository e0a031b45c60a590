use Rattle.name_tree.specs.Searching.{IsChildOrNone, IsOnWay}
use Rattle.name_tree.proofs.folders.given_folder.Given as goal

abbrev pub invariant-up : goal.invariant-up
invariant-up l = record { way : IsOnWay l.names l.nodes l.name l.spot.parent; near : IsChildOrNone l.nodes l.spot.parent l.spot.near }

abbrev pub decreases-up : goal.decreases-up
decreases-up l = l.spot.parent

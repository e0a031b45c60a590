use Rattle.std.proofs.Common.{List, ℕ, ◌<◌, ◌-◌, length}
use Rattle.name_tree.specs.Nodes.{AreNodes}
use Rattle.name_tree.specs.Walking.{IsFirst}
use Rattle.name_tree.proofs.walk.first_file.Given as goal

abbrev pub invariant-down : goal.invariant-down
invariant-down l = record { within : l.place < length l.nodes; first : (names : List (List ℕ)) → AreNodes names l.nodes → IsFirst names l.nodes l.at l.place }

abbrev pub decreases-down : goal.decreases-down
decreases-down l = length l.nodes - l.place

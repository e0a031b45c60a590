use Rattle.std.proofs.Common.{List, ℕ, ◌<◌, length}
use Rattle.name_tree.specs.Tree.{IsFolderKey}
use Rattle.name_tree.specs.Nodes.{key_at, links_of, AreNodes}
use Rattle.name_tree.proofs.Walks.{IsClimbing}
use Rattle.name_tree.proofs.walk.next_file.Given as goal

abbrev pub invariant-up : goal.invariant-up
invariant-up l = record {
  within : l.place < length l.nodes;
  climbing : (names : List (List ℕ)) → AreNodes names l.nodes → (IsFolderKey (key_at names l.nodes l.at) → ⊥) → IsClimbing (length l.nodes) (links_of names l.nodes) l.at l.place;
}

abbrev pub decreases-up : goal.decreases-up
decreases-up l = l.place

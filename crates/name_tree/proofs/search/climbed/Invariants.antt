use Rattle.std.proofs.Common.{◌≡◌, ◌<◌, ◌++◌, List, ℕ, length}
use Rattle.name_tree.specs.Tree.{IsFolderKey}
use Rattle.name_tree.specs.Nodes.{node_at, key_at}
use Rattle.name_tree.proofs.search.climbed.Given as goal

abbrev pub invariant-loop-near : goal.invariant-loop-near
invariant-loop-near l = record {
  some : 0 < l.near;
  near : l.near < length l.nodes;
  under : (node_at l.nodes l.near).parent ≡ l.parent;
  within : l.parent < length l.nodes;
  folder : IsFolderKey (key_at l.names l.nodes l.parent);
  part : (rest : List ℕ) × (key_at l.names l.nodes l.last ≡ key_at l.names l.nodes l.parent ++ rest);
}

abbrev pub decreases-loop-near : goal.decreases-loop-near
decreases-loop-near l = l.parent

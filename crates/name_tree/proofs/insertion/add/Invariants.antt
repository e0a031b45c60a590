use Rattle.std.proofs.Common.{◌≡◌, ◌+◌, ◌-◌, ◌<◌, ◌≤◌, ◌^◌, ◌++◌, ◌∷◌, [], length, vec_len, vec_capacity}
use Rattle.name_tree.specs.Nodes.{given_of}
use Rattle.name_tree.proofs.Growing.{IsGrowing}
use Rattle.name_tree.proofs.insertion.add.Given as goal

abbrev pub invariant-loop-end : goal.invariant-loop-end
invariant-loop-end l = record {
  names : l.names ≡ l.fn.names ++ l.name ∷ [];
  growing : IsGrowing l.names l.nodes.items l.name l.number l.parent l.before l.start;
  given : given_of l.names l.nodes.items ≡ given_of l.fn.names l.fn.nodes.items;
  within : l.start ≤ length l.name;
  room : vec_len l.nodes + (length l.name - l.start) ≤ vec_capacity l.nodes;
  few : vec_len l.nodes + (length l.name - l.start) < 2 ^ 32;
}

abbrev pub decreases-loop-end : goal.decreases-loop-end
decreases-loop-end l = length l.name - l.start

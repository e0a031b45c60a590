use Rattle.std.proofs.Common.{length}
use Rattle.name_tree.specs.Nodes.{key_at}
use Rattle.name_tree.specs.Searching.{IsBefore}
use Rattle.name_tree.proofs.Searches.{count_above}
use Rattle.name_tree.proofs.search.place.Given as goal

abbrev pub invariant-loop-parent : goal.invariant-loop-parent
invariant-loop-parent l = IsBefore l.names l.nodes l.parent l.target l.before

abbrev pub decreases-loop-parent : goal.decreases-loop-parent
decreases-loop-parent l = count_above (key_at l.names l.nodes) (length l.nodes) (key_at l.names l.nodes l.before)

use Rattle.std.proofs.Common.{length, ◌-◌}
use Rattle.name_tree.proofs.Pieces.{NoneYet}
use Rattle.name_tree.proofs.search.end_of_piece.Given as goal

abbrev pub invariant-loop-end : goal.invariant-loop-end
invariant-loop-end l = NoneYet l.name l.start l.end

abbrev pub decreases-loop-end : goal.decreases-loop-end
decreases-loop-end l = length l.name - l.end

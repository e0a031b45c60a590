use Rattle.name_tree.proofs.Taken.{refuses_behind, takes_in_order}
use Rattle.name_tree.proofs.laws.names_are_taken.Goals as goal

pub returns : goal.returns
returns c = record { behind = refuses_behind; in_order = takes_in_order }

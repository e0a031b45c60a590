use Rattle.reversal.proofs.Found.{names_in_order}
use Rattle.reversal.proofs.laws.names_are_in_order.Goals as goal

pub returns : goal.returns
returns c = names_in_order

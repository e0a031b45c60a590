use Rattle.reversal.proofs.Round.{read_again}
use Rattle.reversal.proofs.laws.n8.Goals as goal

pub returns : goal.returns
returns c = read_again

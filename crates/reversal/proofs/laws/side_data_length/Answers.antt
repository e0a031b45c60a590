use Rattle.reversal.specs.Lengths.{length_is}
use Rattle.reversal.proofs.laws.side_data_length.Goals as goal

pub returns : goal.returns
returns c = length_is

use Rattle.range_coder.proofs.CodedLaws.{front_is_read}
use Rattle.range_coder.proofs.laws.front_is_read.Goals as goal

pub returns : goal.returns
returns c = front_is_read

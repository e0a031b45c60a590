use Rattle.cook_bits.proofs.Fields.{read_back}
use Rattle.cook_bits.proofs.laws.written_field_is_read.Goals as goal

pub returns : goal.returns
returns c = read_back

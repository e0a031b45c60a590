use Rattle.ebml_core.proofs.OnlySpelled.{read_id_is_spelled}
use Rattle.ebml_core.proofs.laws.only_spellings_are_read.Goals as goal

pub returns-clause-id : goal.returns-clause-id
returns-clause-id c = read_id_is_spelled

use Rattle.std.proofs.Common.{arith}
use Rattle.reversal.proofs.Found.{is_found}
use Rattle.reversal.proofs.reading.read.Goals as goal

pub returns-clause-found : goal.returns-clause-found
returns-clause-found c = is_found c.args.bytes.now c.named_records_of.result (λ i. omega (arith, c.type_inv.bytes i)) c.named_records_of.ensures

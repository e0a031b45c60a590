use Rattle.std.proofs.Common.{arith}
use Rattle.ebml_core.proofs.Lengths.{byte_count_holds}
use Rattle.ebml_core.proofs.spell.byte_count.Goals as goal

pub returns-then-value-len-clause-holds : goal.returns-then-value-len-clause-holds
returns-then-value-len-clause-holds c = byte_count_holds c.args.value c.loop-len.len (omega arith) c.if-value-len.true

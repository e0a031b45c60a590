use Rattle.std.proofs.Common.{arith}
use Rattle.ebml_core.proofs.Lengths.{shortest_size_holds}
use Rattle.ebml_core.proofs.spell.shortest_size.Goals as goal

pub returns-then-size-len-clause-holds : goal.returns-then-size-len-clause-holds
returns-then-size-len-clause-holds c =
    shortest_size_holds c.args.size c.loop-len.len (omega arith) (omega arith) c.if-size-len.true

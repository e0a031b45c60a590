use Rattle.std.proofs.Common.{arith}
use Rattle.ffv1_frame.proofs.HeadLaws.{blank_part, first-more, first-all, first-refused}
use Rattle.ffv1_frame.proofs.cutting.read_heads.Goals as goal

pub loop-i-preserved : goal.loop-i-preserved
loop-i-preserved c =
    first-more c.args.params.now c.args.bytes.now c.args.parts.now c.loop-i.parts c.loop-i.i blank_part c.in-Ok.head (omega arith) c.loop-i.invariant c.in-Ok.ensures.ok

pub returns-in-Err-clause-err : goal.returns-in-Err-clause-err
returns-in-Err-clause-err c =
    first-refused c.args.params.now c.args.bytes.now c.args.parts.now c.loop-i.parts c.loop-i.i blank_part c.in-Err.why (omega arith) c.loop-i.invariant c.in-Err.ensures.err

pub returns-clause-ok : goal.returns-clause-ok
returns-clause-ok c =
    first-all c.args.params.now c.args.bytes.now c.args.parts.now c.loop-i.parts c.loop-i.i (omega arith) c.loop-i.invariant

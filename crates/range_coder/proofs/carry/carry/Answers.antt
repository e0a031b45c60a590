use Rattle.std.proofs.Common.{◌≤◌, length, arith}
use Rattle.range_coder.proofs.Carries.{carried_on}
use Rattle.range_coder.proofs.carry.carry.Goals as goal

pub loop-at-preserved : goal.loop-at-preserved
loop-at-preserved c =
    let within : c.args.end ≤ length c.loop-at.bytes = omega arith in
    carried_on _ _ _ _ c.loop-at.invariant (omega arith) within (omega arith)

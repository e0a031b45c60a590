use Rattle.std.proofs.Common.{◌-◌, ◌<◌, ◌≤◌, length, rules, arith}
use Rattle.ffv1_frame.proofs.CutLaws.{room-left}
use Rattle.ffv1_frame.proofs.cutting.split.Goals as goal

pub push-requires : goal.push-requires
push-requires c =
    let left : 1 ≤ c.args.most - c.len.result = room-left c.args.ec (c.args.most - c.len.result) _ c.in-Ok.ensures.ok in
    let few : length c.loop-end.parts.items < 1024 = omega arith in
    (search rules, few)

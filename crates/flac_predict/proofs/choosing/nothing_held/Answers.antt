use Rattle.std.proofs.Common.{◌*◌, ◌≤◌, length, arith}
use Rattle.std.proofs.Math.Nat.{mul-le-mul}
use Rattle.flac_predict.proofs.ChoiceLaws.{best_is_light}
use Rattle.flac_predict.proofs.ChoiceCode.{nothing_is_held, order_reaches}
use Rattle.flac_predict.proofs.choosing.nothing_held.Goals as goal

pub returns : goal.returns
returns c =
    let light = best_is_light c.args.bits c.args.samples.now in
    let likely = order_reaches c.args.bits c.args.samples.now c.args.likely.order c.args.likely.offer c.requires.likely in
    let most : length c.args.samples.now * c.args.bits ≤ 4096 * 25 = mul-le-mul c.requires.count c.requires.high in
    nothing_is_held c.args.bits c.args.samples.now _ (omega (arith, light, likely, c.min.ensures)) (omega (arith, most, c.min.ensures))

use Rattle.std.proofs.Common.{refl}
use Rattle.flac_predict.specs.declared.choosing.Choice.TheVariants.{Fixed}
use Rattle.flac_predict.specs.Fixed.{fixed_residuals}
use Rattle.flac_predict.specs.Rice.{best_parameter}
use Rattle.flac_predict.proofs.ChoiceCode.{holds_same, holds_kept, holds_more, no_fixed, one_fixed, of_same_order}
use Rattle.flac_predict.proofs.choosing.with_order.Goals as goal

pub returns-then-samples-order : goal.returns-then-samples-order
returns-then-samples-order c =
    holds_same c.args.bits c.args.samples.now c.args.held _ _ c.requires.held (no_fixed c.args.samples.now c.args.order _ c.if-samples-order.true)

pub returns-then-order-likely : goal.returns-then-order-likely
returns-then-order-likely c =
    let offer = c.args.likely.offer in
    let same = of_same_order c.args.bits c.args.samples.now c.args.order c.args.likely.order offer c.requires.likely c.if-order-likely.true in
    holds_more c.args.bits c.args.samples.now c.args.held offer c.lighter.result _ _ c.requires.held c.requires.likely.weighed c.lighter.ensures (one_fixed c.args.samples.now c.args.order _ offer.choice c.if-samples-order.false same)

pub returns-in-None : goal.returns-in-None
returns-in-None c =
    let choice = Fixed c.args.order (best_parameter (fixed_residuals c.args.order c.args.samples.now)) in
    holds_kept c.args.bits c.args.samples.now c.args.held choice _ _ c.requires.held c.in-None.ensures (one_fixed c.args.samples.now c.args.order _ choice c.if-samples-order.false refl)

pub returns-in-Some : goal.returns-in-Some
returns-in-Some c =
    let next = c.in-Some.next in
    holds_more c.args.bits c.args.samples.now c.args.held next c.lighter-in-Some.result _ _ c.requires.held c.in-Some.ensures.1 c.lighter-in-Some.ensures (one_fixed c.args.samples.now c.args.order _ next.choice c.if-samples-order.false c.in-Some.ensures.0)

use Rattle.std.proofs.Common.{◌≡◌, ◌++◌, ℕ, ap, arith}
use Rattle.flac_predict.specs.Choice.{constant_offer, fixed_offers}
use Rattle.flac_predict.proofs.ChoiceCode.{holds_same, no_order}
use Rattle.flac_predict.proofs.choosing.with_fixed.Goals as goal

pub loop-order-init : goal.loop-order-init
loop-order-init c = holds_same c.args.bits c.args.samples.now c.args.held _ _ c.requires.held (no_order c.args.samples.now _)

pub returns : goal.returns
returns c =
    let e : 5 ≡ c.loop-order.order = omega arith in
    holds_same c.args.bits c.args.samples.now _ _ _ c.loop-order.invariant (ap (λ (n : ℕ). constant_offer c.args.samples.now ++ fixed_offers c.args.samples.now n) e)

use Rattle.std.proofs.Common.{◌≡◌, ◌++◌, ℕ, ap, arith}
use Rattle.flac_predict.specs.Choice.{constant_offer, fixed_offers, linear_offers}
use Rattle.flac_predict.proofs.ChoiceCode.{holds_same, no_number}
use Rattle.flac_predict.proofs.choosing.with_linear.Goals as goal

pub loop-before-init : goal.loop-before-init
loop-before-init c = holds_same c.args.bits c.args.samples.now c.args.held _ _ c.requires.held (no_number c.args.samples.now _)

pub returns : goal.returns
returns c =
    let e : 8 ≡ c.loop-before.before = omega arith in
    holds_same c.args.bits c.args.samples.now _ _ _ c.loop-before.invariant (ap (λ (n : ℕ). constant_offer c.args.samples.now ++ fixed_offers c.args.samples.now 5 ++ linear_offers c.args.samples.now n) e)

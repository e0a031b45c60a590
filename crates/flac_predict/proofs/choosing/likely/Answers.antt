use Rattle.std.proofs.Common.{ℕ, refl, ap, ◌∙◌}
use Rattle.flac_predict.specs.declared.choosing.Choice.TheVariants.{Fixed}
use Rattle.flac_predict.specs.Rice.{best_parameter, residual_bits}
use Rattle.flac_predict.proofs.ChoiceCode.{fixed_weighs}
use Rattle.flac_predict.proofs.choosing.likely.Goals as goal

pub returns : goal.returns
returns c =
    let order = c.likely_order-order.result in
    let p = c.rice_bits-parameter.result.0 in
    let same = c.residual_fixed.ensures.residuals in
    record {
      small = c.likely_order-order.ensures.order;
      enough = c.likely_order-order.ensures.enough;
      choice = ap (λ (n : ℕ). Fixed order n) (c.rice_bits-parameter.ensures.parameter ∙ ap best_parameter same);
      weighed = fixed_weighs c.args.bits c.args.samples.now order p _ c.rice_bits-parameter.result.1 (c.rice_bits-parameter.ensures.bits ∙ ap (residual_bits p) same) refl;
    }

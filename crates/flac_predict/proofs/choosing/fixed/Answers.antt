use Rattle.std.proofs.Common.{◌≡◌, ◌≤◌, ℕ, ℤ, List, refl, ap, ◌∙◌, subst}
use Rattle.flac_predict.specs.declared.choosing.Choice.TheVariants.{Fixed}
use Rattle.flac_predict.specs.Fixed.{fixed_residuals}
use Rattle.flac_predict.specs.Rice.{best_parameter, residual_bits}
use Rattle.flac_predict.proofs.ChoiceCode.{fixed_weighs}
use Rattle.flac_predict.proofs.choosing.fixed.Goals as goal

pub returns-in_err-parameter : goal.returns-in_err-parameter
returns-in_err-parameter c =
    let residuals = c.residual_fixed.new.out in
    let rice = residual_bits (best_parameter residuals) residuals in
    let p = best_parameter (fixed_residuals c.args.order c.args.samples.now) in
    let e : rice ≡ residual_bits p (fixed_residuals c.args.order c.args.samples.now) = ap (λ (l : List ℤ). residual_bits (best_parameter l) l) c.residual_fixed.ensures.residuals in
    rw c.from_residual.ensures
    (subst (λ (n : ℕ). c.args.held.bits ≤ n) (fixed_weighs c.args.bits c.args.samples.now c.args.order p _ rice e refl) c.in_err-parameter.ensures)

pub returns : goal.returns
returns c =
    let p = c.in_ok-parameter.parameter in
    let residuals = c.residual_fixed.new.out in
    let same = c.residual_fixed.ensures.residuals in (
      ap (λ (n : ℕ). Fixed c.args.order n) (c.in_ok-parameter.ensures.0 ∙ ap best_parameter same),
      fixed_weighs c.args.bits c.args.samples.now c.args.order p c.in_ok-parameter.bits (residual_bits p residuals) (ap (residual_bits p) same) c.in_ok-parameter.ensures.1,
    )

use Rattle.std.proofs.Common.{◌≡◌, ◌*◌, ◌≤◌, ℕ, ℤ, List, refl, sym, ap, ◌∙◌, subst, arith}
use Rattle.std.proofs.Math.Nat.{mul-le-mul}
use Rattle.flac_predict.specs.declared.choosing.Choice.TheVariants.{Linear}
use Rattle.flac_predict.specs.declared.sets.LinearSet.{LinearSet}
use Rattle.flac_predict.specs.Linear.{linear_residuals}
use Rattle.flac_predict.specs.Bank.{bank_set}
use Rattle.flac_predict.specs.Rice.{best_parameter, residual_bits}
use Rattle.flac_predict.proofs.BankLaws.{bank_is_linear}
use Rattle.flac_predict.proofs.ChoiceCode.{linear_weighs}
use Rattle.flac_predict.proofs.choosing.linear.Goals as goal

pub offered_by-requires-clause-head : goal.offered_by-requires-clause-head
offered_by-requires-clause-head c =
    let set = c.args.set.now in
    let is = bank_is_linear set (record { number = c.args.number; low = c.requires.low; high = c.requires.number; is = c.requires.set }) in
    let a : set.order * c.args.bits ≤ 32 * 25 = mul-le-mul is.order c.requires.high in
    let b : set.order * set.precision ≤ 32 * 15 = mul-le-mul is.order is.precision in
    omega (arith, a, b)

pub returns-in_err-parameter : goal.returns-in_err-parameter
returns-in_err-parameter c =
    let set = c.args.set.now in
    let residuals = linear_residuals (bank_set c.args.number) c.args.samples.now in
    let same : residuals ≡ linear_residuals set c.args.samples.now = ap (λ (s : LinearSet). linear_residuals s c.args.samples.now) (sym c.requires.set) in
    let rice = residual_bits (best_parameter residuals) residuals in
    let p = best_parameter (linear_residuals set c.args.samples.now) in
    let e : rice ≡ residual_bits p (linear_residuals set c.args.samples.now) = ap (λ (l : List ℤ). residual_bits (best_parameter l) l) same in
    rw c.from_residual.ensures
    (subst (λ (n : ℕ). c.args.held.bits ≤ n) (linear_weighs c.args.bits c.args.samples.now c.args.number set p _ rice c.requires.set e refl) c.in_err-parameter.ensures)

pub returns : goal.returns
returns c =
    let set = c.args.set.now in
    let p = c.in_ok-parameter.parameter in
    let residuals = linear_residuals (bank_set c.args.number) c.args.samples.now in
    let same : residuals ≡ linear_residuals set c.args.samples.now = ap (λ (s : LinearSet). linear_residuals s c.args.samples.now) (sym c.requires.set) in (
      ap (λ (n : ℕ). Linear c.args.number n) (c.in_ok-parameter.ensures.0 ∙ ap best_parameter same),
      linear_weighs c.args.bits c.args.samples.now c.args.number set p c.in_ok-parameter.bits (residual_bits p residuals) c.requires.set (ap (residual_bits p) same) c.in_ok-parameter.ensures.1,
    )

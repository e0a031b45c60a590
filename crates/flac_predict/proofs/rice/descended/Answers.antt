use Rattle.std.proofs.Common.{◌≡◌, sym, ◌∙◌, arith}
use Rattle.flac_predict.proofs.RiceLaws.{parameter_is, is_less}
use Rattle.flac_predict.proofs.rice.descended.Goals as goal

pub returns-then-bits-before-clause-parameter : goal.returns-then-bits-before-clause-parameter
returns-then-bits-before-clause-parameter c =
    let b = c.bits_under-before.ensures.bits in
    let h = c.loop-at.invariant.bits in
    let l = c.if-bits-before.true in
    sym (parameter_is c.args.residuals.now c.loop-at.at c.loop-at.invariant.within c.loop-at.invariant.up (λ _. omega (arith, b, h, l)))

pub returns-clause-parameter : goal.returns-clause-parameter
returns-clause-parameter c =
    let z : c.loop-at.at ≡ 0 = omega arith in
    let e = parameter_is c.args.residuals.now c.loop-at.at c.loop-at.invariant.within c.loop-at.invariant.up (λ p. absurd (omega arith)) in
    sym (e ∙ z)

pub returns-then-count-at-clause-parameter : goal.returns-then-count-at-clause-parameter
returns-then-count-at-clause-parameter c =
    let b = c.loop-at.invariant.bits in
    let l = c.if-count-at.true in
    sym (parameter_is c.args.residuals.now c.loop-at.at c.loop-at.invariant.within c.loop-at.invariant.up (λ p. is_less c.loop-at.at c.args.residuals.now p (omega (arith, b, l))))

use Rattle.std.proofs.Common.{arith, ap, sym, ◌∙◌, ◌+◌, ◌*◌, take}
use Rattle.sequence_scan.specs.Numbers.{number_from}
use Rattle.sequence_scan.proofs.Values.{number_none, number_step, step_fits}
use Rattle.sequence_scan.proofs.number.read_number.Goals as goal

pub loop-digit-init : goal.loop-digit-init
loop-digit-init c = number_none

pub overflow_mul-number : goal.overflow_mul-number
overflow_mul-number c = omega (arith, step_fits c.args.digits.now c.loop-digit.digit-index c.loop-digit.number c.loop-digit.invariant c.loop-digit-test.true c.requires.few c.requires.all)

pub overflow_add-number : goal.overflow_add-number
overflow_add-number c = omega (arith, c.from.ensures, step_fits c.args.digits.now c.loop-digit.digit-index c.loop-digit.number c.loop-digit.invariant c.loop-digit-test.true c.requires.few c.requires.all)

pub loop-digit-preserved : goal.loop-digit-preserved
loop-digit-preserved c =
    let digits = c.args.digits.now in
    ap (λ n. n * 10 + c.from.result) c.loop-digit.invariant
    ∙ ap (λ d. number_from (take c.loop-digit.digit-index digits) * 10 + d) c.from.ensures
    ∙ sym (number_step digits c.loop-digit.digit-index c.loop-digit-test.true)

use Rattle.std.proofs.Common.{◌≡◌, ◌+◌, ◌-◌, ◌≤◌, ℕ, length, ap, ◌∙◌, arith}
use Rattle.std.specs.List.{slice_range}
use Rattle.flac_predict.specs.Bank.{bank_set}
use Rattle.flac_predict.specs.Linear.{linear_residuals}
use Rattle.flac_predict.proofs.LinearLaws.{length-linear_residuals}
use Rattle.flac_predict.proofs.PartLaws.{nothing_so_far, one_part_more, part_of_residuals, sum_is_reached}
use Rattle.flac_predict.proofs.linear.sum_of_set.Goals as goal

pub loop-done-init : goal.loop-done-init
loop-done-init c =
    let w = length-linear_residuals (bank_set c.args.number) c.args.samples.now in
    nothing_so_far _ _ (omega (arith, w, c.requires.order, c.requires.room))

pub returns-then-sum-most-clause-sum : goal.returns-then-sum-most-clause-sum
returns-then-sum-most-clause-sum c =
    let set = bank_set c.args.number in
    let samples = c.args.samples.now in
    let at = c.loop-done in
    let end = c.min-end.result in
    let whole = linear_residuals set samples in
    let w : length whole ≡ length samples - set.order = length-linear_residuals set samples in
    let h : at.done ≤ end = omega (arith, c.min-end.ensures, c.loop-done-test.true) in
    let l : end + set.order ≤ length samples = omega (arith, c.min-end.ensures, c.requires.order, c.requires.room) in
    let part : c.residual_bank.new.out ≡ slice_range whole at.done end =
    c.residual_bank.ensures.residuals ∙ ap (λ (n : ℕ). linear_residuals set (slice_range samples at.done (end + n))) c.requires.order ∙ part_of_residuals set samples at.done end h l in
    let so = one_part_more whole at.out c.residual_bank.new.out at.done end at.sum c.shifted_sum-sum.result at.invariant h (omega (arith, w, l)) part c.shifted_sum-sum.ensures.sum c.shifted_sum-sum.ensures.small in
    sum_is_reached whole _ end _ c.args.most so c.if-sum-most.true

pub loop-done-preserved : goal.loop-done-preserved
loop-done-preserved c =
    let set = bank_set c.args.number in
    let samples = c.args.samples.now in
    let at = c.loop-done in
    let end = c.min-end.result in
    let whole = linear_residuals set samples in
    let w : length whole ≡ length samples - set.order = length-linear_residuals set samples in
    let h : at.done ≤ end = omega (arith, c.min-end.ensures, c.loop-done-test.true) in
    let l : end + set.order ≤ length samples = omega (arith, c.min-end.ensures, c.requires.order, c.requires.room) in
    let part : c.residual_bank.new.out ≡ slice_range whole at.done end =
    c.residual_bank.ensures.residuals ∙ ap (λ (n : ℕ). linear_residuals set (slice_range samples at.done (end + n))) c.requires.order ∙ part_of_residuals set samples at.done end h l in
    one_part_more whole at.out c.residual_bank.new.out at.done end at.sum c.shifted_sum-sum.result at.invariant h (omega (arith, w, l)) part c.shifted_sum-sum.ensures.sum c.shifted_sum-sum.ensures.small

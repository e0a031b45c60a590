use Rattle.std.proofs.Common.{◌≡◌, ◌+◌, [], refl, sym, ◌∙◌, arith}
use Rattle.ffv1_params.proofs.TableLaws.{steps_none, steps_more}
use Rattle.ffv1_params.proofs.quantization.steps_in.Goals as goal

pub loop-run-init : goal.loop-run-init
loop-run-init c = (refl, c.in_ok-steps.ensures.items ∙ sym (steps_none 0 []))

pub loop-run-preserved : goal.loop-run-preserved
loop-run-preserved c =
    let more = steps_more 0 c.args.runs.now c.loop-run.run-index 0 (omega arith) in
    let same = c.loop-run.invariant.0 in
    let before = c.loop-run.invariant.1 in
    let first : 0 + c.loop-run.run-index ≡ c.loop-run.run-index = omega arith in
    (omega arith, cc (c.in_ok-push_run.ensures))

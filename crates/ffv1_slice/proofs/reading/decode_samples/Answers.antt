use Rattle.std.proofs.Common.{◌≡◌, ℕ, ◌+◌, ◌*◌, ◌∙◌, ap, arith, rules, unsigned_abs, to_z, of_z, w32, SFits, length-set}
use Rattle.std.proofs.lemmas.Int.{to_z-of_z}
use Rattle.std.specs.Int.{is_negative}
use Rattle.ffv1_slice.specs.Plane.{context, prediction, slot_in}
use Rattle.ffv1_slice.specs.Work.{around_lines}
use Rattle.ffv1_slice.proofs.SamplesRead.{sample_got, sample_fails, line_got_at, restored_as, on_err}
use Rattle.ffv1_slice.proofs.reading.decode_samples.Goals as goal

pub returns-in_err-value-clause-err : goal.returns-in_err-value-clause-err
returns-in_err-value-clause-err c =
    let f : SFits w32 c.context_of-context.result = search rules in
    let z : to_z w32 (of_z w32 c.context_of-context.result) ≡ c.context_of-context.result = to_z-of_z w32 c.context_of-context.result f in
    let e : c.context_of-context.result ≡ context c.args.values.now (around_lines c.args.above2.now c.args.above.now c.loop-x.line c.loop-x.x) = c.context_of-context.ensures.context ∙ ap (context c.args.values.now) c.around_in-around.ensures in
    let slot : c.args.first + 32 * c.unsigned_abs.result ≡ slot_in c.args.first (context c.args.values.now (around_lines c.args.above2.now c.args.above.now c.loop-x.line c.loop-x.x)) = ap (λ (n : ℕ). c.args.first + 32 * n) (c.unsigned_abs.ensures.value ∙ ap unsigned_abs (z ∙ e)) in
    on_err _ _ (sample_fails _ _ _ _ _ _ _ _ _ _ _ _ _ c.loop-x.x _ _ c.loop-x.invariant (omega arith) slot c.in_err-value.ensures.bad)

pub loop-x-preserved : goal.loop-x-preserved
loop-x-preserved c =
    let f : SFits w32 c.context_of-context.result = search rules in
    let z : to_z w32 (of_z w32 c.context_of-context.result) ≡ c.context_of-context.result = to_z-of_z w32 c.context_of-context.result f in
    let e : c.context_of-context.result ≡ context c.args.values.now (around_lines c.args.above2.now c.args.above.now c.loop-x.line c.loop-x.x) = c.context_of-context.ensures.context ∙ ap (context c.args.values.now) c.around_in-around.ensures in
    let slot : c.args.first + 32 * c.unsigned_abs.result ≡ slot_in c.args.first (context c.args.values.now (around_lines c.args.above2.now c.args.above.now c.loop-x.line c.loop-x.x)) = ap (λ (n : ℕ). c.args.first + 32 * n) (c.unsigned_abs.ensures.value ∙ ap unsigned_abs (z ∙ e)) in
    let g : SFits w32 c.in_ok-value.value = search rules in
    sample_got _ _ _ _ _ _ _ _ _ _ _ _ _ c.loop-x.x c.in_ok-value.value _ c.restored_of.result c.loop-x.invariant slot c.in_ok-value.ensures.ok c.in_ok-value.ensures.codable
    (c.restored_of.ensures.value ∙ restored_as _ _ _ _ _ _ _ (ap is_negative (z ∙ e)) (c.predicted.ensures.prediction ∙ ap prediction c.around_in-around.ensures) (to_z-of_z w32 c.in_ok-value.value g))
    c.restored_of.ensures.below (omega (arith, length-set {A = ℕ})) c.get_signed_at.ensures.live

pub returns-clause-ok : goal.returns-clause-ok
returns-clause-ok c =
    line_got_at _ _ _ _ _ _ _ _ _ _ _ c.loop-x.x _ (omega arith) c.loop-x.invariant c.requires.some (omega (arith, length-set {A = ℕ}))

use Rattle.std.proofs.Common.{◌≡◌, ◌-◌, ℕ, refl, ap, ◌∙◌, arith, rules, to_z, of_z, w32, w64, FitsSigned}
use Rattle.std.specs.Int.{int_shr}
use Rattle.std.proofs.lemmas.Int.{to_z-of_z}
use Rattle.flac_predict.specs.Samples.{sample_at}
use Rattle.flac_predict.specs.Linear.{weighted}
use Rattle.flac_predict.proofs.LinearCode.{one_more_term, weighted_is_small, shift_is, prediction_inside, inside_60, kept_45, same_inside}
use Rattle.flac_predict.proofs.linear.prediction.Goals as goal

pub loop-count-init : goal.loop-count-init
unfolding weighted
loop-count-init c = refl

pub with_term-sum-requires : goal.with_term-sum-requires
with_term-sum-requires c =
    inside_60 _ (to_z w64 c.loop-count.sum-bits) c.loop-count.invariant (weighted_is_small c.args.set.now c.args.samples.now c.args.place c.loop-count.count c.requires.set c.requires.samples (omega arith) c.requires.enough)

pub loop-count-preserved : goal.loop-count-preserved
loop-count-preserved c =
    let v : to_z w64 (of_z w64 c.with_term-sum.result) ≡ c.with_term-sum.result = to_z-of_z w64 c.with_term-sum.result (record { sfits = c.with_term-sum.type_inv }) in
    let f : FitsSigned w32 (sample_at c.args.set.now.coefficients c.loop-count.count) = search rules in
    let g : FitsSigned w32 (sample_at c.args.samples.now (c.args.place - 1 - c.loop-count.count)) = search rules in
    v ∙ one_more_term c.args.set.now c.args.samples.now c.args.place c.loop-count.count _ _ _ c.with_term-sum.result c.loop-count.invariant (to_z-of_z w32 _ f) (to_z-of_z w32 _ g) c.with_term-sum.ensures

pub returns-clause-prediction : goal.returns-clause-prediction
returns-clause-prediction c =
    let n : c.loop-count.count ≡ c.args.set.now.order = omega arith in
    let e = c.loop-count.invariant ∙ ap (λ (k : ℕ). weighted k c.args.set.now.coefficients c.args.samples.now c.args.place) n in
    let p = shift_is c.args.set.now c.args.samples.now c.args.place (to_z w64 c.loop-count.sum-bits) (int_shr (to_z w64 c.loop-count.sum-bits) c.args.set.now.shift) e refl in
    kept_45 _ _ p (prediction_inside c.args.set.now c.args.samples.now c.args.place c.requires.set c.requires.samples c.requires.enough)

pub returns-clause-inside : goal.returns-clause-inside
returns-clause-inside c =
    let n : c.loop-count.count ≡ c.args.set.now.order = omega arith in
    let e = c.loop-count.invariant ∙ ap (λ (k : ℕ). weighted k c.args.set.now.coefficients c.args.samples.now c.args.place) n in
    let p = shift_is c.args.set.now c.args.samples.now c.args.place (to_z w64 c.loop-count.sum-bits) (int_shr (to_z w64 c.loop-count.sum-bits) c.args.set.now.shift) e refl in
    let i = prediction_inside c.args.set.now c.args.samples.now c.args.place c.requires.set c.requires.samples c.requires.enough in
    same_inside 45 _ _ (kept_45 _ _ p i) i

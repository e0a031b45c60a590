use Rattle.std.proofs.Common.{◌≡◌, ◌+◌, refl, sym, ◌∙◌, subst, arith, rules, lit<, to_z, of_z, w32, w64, FitsSigned}
use Rattle.std.proofs.lemmas.Int.{to_z-of_z}
use Rattle.flac_predict.specs.Samples.{sample_at, AreInside}
use Rattle.flac_predict.proofs.BankLaws.{bank_is_linear, bank_is_tame, residual_inside, linear_is_small}
use Rattle.flac_predict.proofs.LinearCode.{front_inside, residual_written, residual_value, all_written, same_inside}
use Rattle.flac_predict.proofs.linear.residuals_of.Goals as goal

pub prediction-prediction-requires-clause-set : goal.prediction-prediction-requires-clause-set
prediction-prediction-requires-clause-set c = bank_is_linear c.args.set.now c.requires.set

pub prediction-prediction-requires-clause-samples : goal.prediction-prediction-requires-clause-samples
prediction-prediction-requires-clause-samples c = front_inside 25 _ c.args.samples.now (lit< tt) c.requires.samples

pub difference_of-requires-clause-prediction : goal.difference_of-requires-clause-prediction
difference_of-requires-clause-prediction c =
    let v : to_z w64 (of_z w64 c.prediction-prediction.result) ≡ c.prediction-prediction.result = to_z-of_z w64 c.prediction-prediction.result (record { sfits = c.prediction-prediction.type_inv }) in
    same_inside 45 _ _ v c.prediction-prediction.ensures.inside

pub difference_of-requires-clause-small : goal.difference_of-requires-clause-small
difference_of-requires-clause-small c =
    let v : to_z w64 (of_z w64 c.prediction-prediction.result) ≡ c.prediction-prediction.result = to_z-of_z w64 c.prediction-prediction.result (record { sfits = c.prediction-prediction.type_inv }) in
    let at = c.args.set.now.order + c.loop-place.place in
    let f : FitsSigned w32 (sample_at c.args.samples.now at) = search rules in
    let e = residual_value c.args.set.now c.args.samples.now at _ _ _ (to_z-of_z w32 _ f) (v ∙ c.prediction-prediction.ensures.prediction) refl in
    same_inside 29 _ _ e (residual_inside c.args.set.now c.args.samples.now at (bank_is_tame c.args.set.now c.requires.set) c.requires.samples)

pub loop-place-preserved : goal.loop-place-preserved
loop-place-preserved c =
    let v : to_z w64 (of_z w64 c.prediction-prediction.result) ≡ c.prediction-prediction.result = to_z-of_z w64 c.prediction-prediction.result (record { sfits = c.prediction-prediction.type_inv }) in
    let u : to_z w32 (of_z w32 c.difference_of.result) ≡ c.difference_of.result = to_z-of_z w32 c.difference_of.result (record { sfits = c.difference_of.type_inv }) in
    let at = c.args.set.now.order + c.loop-place.place in
    let f : FitsSigned w32 (sample_at c.args.samples.now at) = search rules in
    let e = residual_value c.args.set.now c.args.samples.now at _ _ c.difference_of.result (to_z-of_z w32 _ f) (v ∙ c.prediction-prediction.ensures.prediction) c.difference_of.ensures in
    residual_written c.args.set.now c.args.samples.now c.loop-place.out c.loop-place.place _ (omega arith) c.loop-place.invariant (u ∙ e)

pub returns-clause-residuals : goal.returns-clause-residuals
returns-clause-residuals c =
    all_written c.args.set.now c.args.samples.now c.loop-place.out (omega arith) (λ k h. c.loop-place.invariant k (omega arith))

pub returns-clause-inside : goal.returns-clause-inside
returns-clause-inside c =
    let e = all_written c.args.set.now c.args.samples.now c.loop-place.out (omega arith) (λ k h. c.loop-place.invariant k (omega arith)) in
    subst (AreInside 29) (sym e) (linear_is_small c.args.set.now c.args.samples.now c.requires.set c.requires.samples)

use Rattle.std.proofs.Common.{◌≡◌, true, false, ℤ, refl, sym, ap, ◌∙◌, arith, rules, to_z, of_z, w32, w64, FitsSigned}
use Rattle.std.proofs.lemmas.Int.{to_z-of_z}
use Rattle.std.proofs.lemmas.Nat.{pow_pos}
use Rattle.flac_predict.specs.Samples.{sample_at, is_inside}
use Rattle.flac_predict.proofs.RestoreLaws.{are_inside_25, inside_25}
use Rattle.flac_predict.proofs.LinearCode.{linear_goes_on, linear_breaks, linear_ends, sample_value, same_inside, fits_32}
use Rattle.flac_predict.proofs.linear.restore_linear.Goals as goal

pub loop-place-init : goal.loop-place-init
loop-place-init c = record { whole_is = refl; inside = c.requires.warm_up }

pub prediction-prediction-requires-clause-samples : goal.prediction-prediction-requires-clause-samples
prediction-prediction-requires-clause-samples c =
    are_inside_25 c.args.bits _ c.requires.high c.loop-place.invariant.inside

pub sum_of-sample-requires : goal.sum_of-sample-requires
sum_of-sample-requires c =
    let v : to_z w64 (of_z w64 c.prediction-prediction.result) ≡ c.prediction-prediction.result = to_z-of_z w64 c.prediction-prediction.result (record { sfits = c.prediction-prediction.type_inv }) in
    same_inside 45 _ _ v c.prediction-prediction.ensures.inside

pub returns-then-not-is_inside-clause-inside : goal.returns-then-not-is_inside-clause-inside
returns-then-not-is_inside-clause-inside c =
    let x = c.sum_of-sample.result in
    let p = c.prediction-prediction.result in
    let u : to_z w64 (of_z w64 x) ≡ x = to_z-of_z w64 x (record { sfits = c.sum_of-sample.type_inv }) in
    let v : to_z w64 (of_z w64 p) ≡ p = to_z-of_z w64 p (record { sfits = c.prediction-prediction.type_inv }) in
    let f : FitsSigned w32 (sample_at c.loop-place.samples c.loop-place.place) = search rules in
    let e = sample_value c.args.set.now c.loop-place.samples c.loop-place.place _ _ x (to_z-of_z w32 _ f) (v ∙ c.prediction-prediction.ensures.prediction) c.sum_of-sample.ensures in
    let i : is_inside c.args.bits x ≡ false = ap (is_inside c.args.bits) (sym u) ∙ sym c.is_inside.ensures ∙ c.if-not-is_inside.true in
    sym (linear_breaks c.args.set.now c.args.bits _ c.loop-place.samples c.loop-place.place x c.loop-place.invariant (omega arith) e (omega arith) i)

pub overflow_cast-samples : goal.overflow_cast-samples
overflow_cast-samples c =
    let x = c.sum_of-sample.result in
    let u : to_z w64 (of_z w64 x) ≡ x = to_z-of_z w64 x (record { sfits = c.sum_of-sample.type_inv }) in
    let i : is_inside c.args.bits x ≡ true = ap (is_inside c.args.bits) (sym u) ∙ sym c.is_inside.ensures ∙ c.if-not-is_inside.false in
    fits_32 _ x u (inside_25 c.args.bits x c.requires.high i)

pub loop-place-preserved : goal.loop-place-preserved
loop-place-preserved c =
    let x = c.sum_of-sample.result in
    let p = c.prediction-prediction.result in
    let u : to_z w64 (of_z w64 x) ≡ x = to_z-of_z w64 x (record { sfits = c.sum_of-sample.type_inv }) in
    let v : to_z w64 (of_z w64 p) ≡ p = to_z-of_z w64 p (record { sfits = c.prediction-prediction.type_inv }) in
    let f : FitsSigned w32 (sample_at c.loop-place.samples c.loop-place.place) = search rules in
    let e = sample_value c.args.set.now c.loop-place.samples c.loop-place.place _ _ x (to_z-of_z w32 _ f) (v ∙ c.prediction-prediction.ensures.prediction) c.sum_of-sample.ensures in
    let i : is_inside c.args.bits x ≡ true = ap (is_inside c.args.bits) (sym u) ∙ sym c.is_inside.ensures ∙ c.if-not-is_inside.false in
    let w : to_z w32 (of_z w32 (to_z w64 (of_z w64 x))) ≡ x = ap (λ (y : ℤ). to_z w32 (of_z w32 y)) u ∙ to_z-of_z w32 x (fits_32 x x refl (inside_25 c.args.bits x c.requires.high i)) in
    rw w (linear_goes_on c.args.set.now c.args.bits _ c.loop-place.samples c.loop-place.place x (pow_pos _) c.loop-place.invariant (omega arith) e (omega arith) i)

pub returns-clause-inside : goal.returns-clause-inside
returns-clause-inside c =
    sym (linear_ends c.args.set.now c.args.bits _ c.loop-place.samples c.loop-place.place c.loop-place.invariant (omega arith)).1

pub returns-clause-restored : goal.returns-clause-restored
returns-clause-restored c = λ _. (linear_ends c.args.set.now c.args.bits _ c.loop-place.samples c.loop-place.place c.loop-place.invariant (omega arith)).0

use Rattle.std.proofs.Common.{◌+◌, ◌*◌, ◌++◌, [], ◌∷◌, List, length, sym, subst, refl}
use Rattle.flac_predict.specs.declared.choosing.Choice.{Choice}
use Rattle.flac_predict.specs.declared.choosing.Choice.TheVariants.{Verbatim}
use Rattle.flac_predict.specs.declared.choosing.Weighed.{Weighed}
use Rattle.flac_predict.specs.Choice.{IsCandidate, constant_offer, fixed_offers, linear_offers}
use Rattle.flac_predict.proofs.RestoreLaws.{are_inside_25}
use Rattle.flac_predict.proofs.ChoiceLaws.{best_is_candidate}
use Rattle.flac_predict.proofs.ChoiceCode.{holds_more, best_is, best_weighs, verbatim_weighs}
use Rattle.flac_predict.proofs.choosing.weigh.Goals as goal

pub likely-likely-requires-clause-samples : goal.likely-likely-requires-clause-samples
likely-likely-requires-clause-samples c = are_inside_25 c.args.bits c.args.samples.now c.requires.high c.requires.samples

pub with_fixed-held-requires-clause-samples : goal.with_fixed-held-requires-clause-samples
with_fixed-held-requires-clause-samples c = are_inside_25 c.args.bits c.args.samples.now c.requires.high c.requires.samples

pub with_linear-held-requires-clause-samples : goal.with_linear-held-requires-clause-samples
with_linear-held-requires-clause-samples c = are_inside_25 c.args.bits c.args.samples.now c.requires.high c.requires.samples

pub returns-clause-choice : goal.returns-clause-choice
returns-clause-choice c =
    let samples = c.args.samples.now in
    let front : List Choice = constant_offer samples ++ fixed_offers samples 5 ++ linear_offers samples 8 in
    let v : Weighed = record { choice = Verbatim; bits = 8 + length samples * c.args.bits } in
    let h = holds_more c.args.bits samples c.with_linear-held.result v c.lighter.result front (front ++ Verbatim ∷ []) c.with_linear-held.ensures (verbatim_weighs c.args.bits samples v.bits refl) c.lighter.ensures refl in
    best_is c.args.bits samples c.lighter.result h

pub returns-clause-bits : goal.returns-clause-bits
returns-clause-bits c =
    let samples = c.args.samples.now in
    let front : List Choice = constant_offer samples ++ fixed_offers samples 5 ++ linear_offers samples 8 in
    let v : Weighed = record { choice = Verbatim; bits = 8 + length samples * c.args.bits } in
    let h = holds_more c.args.bits samples c.with_linear-held.result v c.lighter.result front (front ++ Verbatim ∷ []) c.with_linear-held.ensures (verbatim_weighs c.args.bits samples v.bits refl) c.lighter.ensures refl in
    best_weighs c.args.bits samples c.lighter.result h

pub returns-clause-candidate : goal.returns-clause-candidate
returns-clause-candidate c =
    let samples = c.args.samples.now in
    let front : List Choice = constant_offer samples ++ fixed_offers samples 5 ++ linear_offers samples 8 in
    let v : Weighed = record { choice = Verbatim; bits = 8 + length samples * c.args.bits } in
    let h = holds_more c.args.bits samples c.with_linear-held.result v c.lighter.result front (front ++ Verbatim ∷ []) c.with_linear-held.ensures (verbatim_weighs c.args.bits samples v.bits refl) c.lighter.ensures refl in
    subst (IsCandidate samples) (sym (best_is c.args.bits samples c.lighter.result h)) (best_is_candidate c.args.bits samples)

use Rattle.std.proofs.Common.{◌++◌, ℕ, ℤ, List, sym, ap, ◌∙◌, subst}
use Rattle.flac_predict.specs.Samples.{AreInside}
use Rattle.flac_predict.specs.Fixed.{lasts}
use Rattle.flac_predict.proofs.RestoreLaws.{restored_is, are_inside_25}
use Rattle.flac_predict.proofs.sums.restored.Goals as goal

pub of-requires-clause-inside : goal.of-requires-clause-inside
of-requires-clause-inside g c =
    subst (AreInside 25) (sym c.split_at_mut-warm_up.ensures.front) (are_inside_25 c.args.bits _ c.requires.high c.requires.warm_up)

pub returns-clause-inside : goal.returns-clause-inside
returns-clause-inside g c =
    let front = c.split_at_mut-warm_up.result.0.now in
    let l = c.of.ensures.last ∙ ap (λ (n : ℕ). lasts n front) c.requires.order in
    let r = restored_is c.args.order c.args.bits c.args.samples.now front c.split_at_mut-warm_up.result.1.now _ c.requires.enough c.split_at_mut-warm_up.ensures.front c.split_at_mut-warm_up.ensures.back l c.requires.warm_up in
    c.sums_into.ensures.inside ∙ r.inside

pub returns-clause-restored : goal.returns-clause-restored
returns-clause-restored g c =
    let front = c.split_at_mut-warm_up.result.0.now in
    let l = c.of.ensures.last ∙ ap (λ (n : ℕ). lasts n front) c.requires.order in
    let r = restored_is c.args.order c.args.bits c.args.samples.now front c.split_at_mut-warm_up.result.1.now _ c.requires.enough c.split_at_mut-warm_up.ensures.front c.split_at_mut-warm_up.ensures.back l c.requires.warm_up in
    λ t. ap (λ (x : List ℤ). front ++ x) (c.sums_into.ensures.following t) ∙ r.list

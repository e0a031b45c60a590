use Rattle.std.proofs.Common.{◌+◌, refl}
use Rattle.flac_predict.specs.declared.choosing.Choice.TheVariants.{Linear}
use Rattle.flac_predict.specs.Linear.{linear_residuals}
use Rattle.flac_predict.specs.Rice.{best_parameter}
use Rattle.flac_predict.proofs.ChoiceCode.{holds_same, holds_kept, holds_more, no_linear, one_linear}
use Rattle.flac_predict.proofs.choosing.with_set.Goals as goal

pub returns-then-samples-set : goal.returns-then-samples-set
returns-then-samples-set c =
    holds_same c.args.bits c.args.samples.now c.args.held _ _ c.requires.held (no_linear c.args.samples.now c.args.before c.bank-set.result _ c.bank-set.ensures.set c.if-samples-set.true)

pub returns-in-None : goal.returns-in-None
returns-in-None c =
    let set = c.bank-set.result in
    let choice = Linear (c.args.before + 1) (best_parameter (linear_residuals set c.args.samples.now)) in
    holds_kept c.args.bits c.args.samples.now c.args.held choice _ _ c.requires.held c.in-None.ensures (one_linear c.args.samples.now c.args.before set _ choice c.bank-set.ensures.set c.if-samples-set.false refl)

pub returns-in-Some : goal.returns-in-Some
returns-in-Some c =
    let next = c.in-Some.next in
    holds_more c.args.bits c.args.samples.now c.args.held next c.lighter.result _ _ c.requires.held c.in-Some.ensures.1 c.lighter.ensures (one_linear c.args.samples.now c.args.before c.bank-set.result _ next.choice c.bank-set.ensures.set c.if-samples-set.false c.in-Some.ensures.0)

use Rattle.std.proofs.Common.{[], sym, ◌∙◌, refl}
use Rattle.flac_predict.proofs.ChoiceCode.{holds_same, holds_more, constant_is, no_constant, constant_weighs}
use Rattle.flac_predict.proofs.choosing.with_constant.Goals as goal

pub returns-then-not-are_equal : goal.returns-then-not-are_equal
returns-then-not-are_equal c =
    holds_same c.args.bits c.args.samples.now c.args.held [] _ c.requires.held (no_constant c.args.samples.now c.requires.some (sym c.are_equal.ensures ∙ c.if-not-are_equal.true))

pub returns : goal.returns
returns c =
    holds_more c.args.bits c.args.samples.now c.args.held _ c.lighter.result [] _ c.requires.held (constant_weighs c.args.bits c.args.samples.now _ refl) c.lighter.ensures (constant_is c.args.samples.now c.requires.some (sym c.are_equal.ensures ∙ c.if-not-are_equal.false))

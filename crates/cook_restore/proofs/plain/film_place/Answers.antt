use Rattle.std.proofs.Common.{◌+◌, length, refl, sym, subst}
use Rattle.std.proofs.lemmas.List.Elements.{All-get_or}
use Rattle.reversal.specs.SideData.{HasShape}
use Rattle.cook_restore.proofs.PlainLaws.{film-here, none-at-all, one-more}
use Rattle.cook_restore.proofs.plain.film_place.Goals as goal

pub returns-in-Frame : goal.returns-in-Frame
returns-in-Frame c =
    film-here c.args.records.now c.loop-said.said-index c.loop-said.place c.said-item.result c.loop-said.invariant c.loop-said-test.true c.said-item.is c.in-Frame.is

pub loop-said-preserved : goal.loop-said-preserved
loop-said-preserved c =
    let said = c.said-item.result in
    let shape = subst HasShape (sym c.said-item.is) (All-get_or HasShape c.args.records.now c.loop-said.said-index said c.loop-said-test.true c.requires.shaped) in
    one-more c.args.records.now c.loop-said.said-index c.loop-said.place (c.loop-said.place + (27 + length c.as_str.result.now)) said c.loop-said.invariant c.loop-said-test.true c.said-item.is c.in-Other.is shape.in_two (rw c.as_str.ensures refl)

pub returns : goal.returns
returns c = none-at-all c.args.records.now c.loop-said.said-index c.loop-said.place c.loop-said.invariant c.loop-said-test.false

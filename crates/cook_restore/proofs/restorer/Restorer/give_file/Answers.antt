use Rattle.std.proofs.Common.{arith, sym, ◌∙◌, subst}
use Rattle.std.specs.Prelude.{IfSome, IfOk, IfErr}
use Rattle.cook_restore.specs.Contents.{PlaceEndsBy}
use Rattle.cook_restore.specs.Giving.{IsContentGiven, NotGiven}
use Rattle.cook_restore.specs.Restoring.{no_record, record_at}
use Rattle.cook_restore.proofs.NameLaws.{listed-in}
use Rattle.cook_restore.proofs.NextLaws.{asked-there, at-any, place-at, place-ends, places-length}
use Rattle.cook_restore.proofs.restorer.Restorer.give_file.Goals as goal

pub index-requires-2 : goal.index-requires-2
index-requires-2 g c = omega (arith, places-length _ _ _ c.args.self.now.placed, c.requires.inside)

pub give-requires-clause-listed : goal.give-requires-clause-listed
give-requires-clause-listed g c = listed-in _ _ c.args.number _ c.args.self.now.held c.requires.inside (c.index.ensures ∙ at-any _ _ _ no_record c.requires.inside)

pub give-requires-clause-ends : goal.give-requires-clause-ends
give-requires-clause-ends g c =
    let place = c.index-2.ensures ∙ place-at _ _ _ _ _ c.args.self.now.placed c.requires.inside in
    subst (λ o. IfSome o (PlaceEndsBy c.args.self.now.len)) (sym place) (place-ends c.args.self.now.len (record_at c.args.self.now c.args.number) c.args.self.now.outline.files c.args.self.now.within)

pub returns-clause-given : goal.returns-clause-given
returns-clause-given g c =
    let asked = asked-there _ _ _ _ c.args.self.now c.args.number c.as_str.ensures (c.index.ensures ∙ at-any _ _ _ no_record c.requires.inside) (c.index-2.ensures ∙ place-at _ _ _ _ _ c.args.self.now.placed c.requires.inside) c.root_of.ensures in
    subst (λ a. IfOk c.give.result (IsContentGiven g.S.Shelf c.args.shelf.now c.give.new.shelf a)) asked c.give.ensures.given

pub returns-clause-stopped : goal.returns-clause-stopped
returns-clause-stopped g c =
    let asked = asked-there _ _ _ _ c.args.self.now c.args.number c.as_str.ensures (c.index.ensures ∙ at-any _ _ _ no_record c.requires.inside) (c.index-2.ensures ∙ place-at _ _ _ _ _ c.args.self.now.placed c.requires.inside) c.root_of.ensures in
    subst (λ a. IfErr c.give.result (NotGiven g.S.Shelf c.args.shelf.now c.give.new.shelf a)) asked c.give.ensures.stopped

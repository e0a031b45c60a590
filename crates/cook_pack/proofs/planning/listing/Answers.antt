use Rattle.std.proofs.Common.{sym, ◌∙◌, subst}
use Rattle.cook_pack.specs.Entries.{AreInOrder}
use Rattle.cook_pack.proofs.PlanLaws.{told-in_order}
use Rattle.cook_pack.proofs.planning.listing.Goals as goal

-- a told listing stood in order, so it is as it was
pub returns-clause-listed : goal.returns-clause-listed
returns-clause-listed g c = λ known.
    let told = c.in_ok-entries.ensures.listed known in
    c.put_in_order.ensures.kept (subst AreInOrder (sym told) (told-in_order (g.S.Shelf.files c.args.shelf.now) c.args.root.now)) ∙ told

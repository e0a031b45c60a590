use Rattle.std.proofs.Common.{sym, subst, ◌∙◌}
use Rattle.shelf_core.specs.Told.{HasFile}
use Rattle.conformance.proofs.ShelfLaws.{measured_is_there}
use Rattle.conformance.proofs.shelf.len_of.Goals as goal

pub returns-in-Some : goal.returns-in-Some
returns-in-Some g c =
    subst (λ told. HasFile told c.args.name.now) (sym c.len.ensures.files)
    (measured_is_there _ _ c.in-Some.len (λ known. sym c.in-Some.is ∙ c.in_ok-len.ensures.length known))

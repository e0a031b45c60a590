use Rattle.cook_restore.proofs.OpenLaws.{outlined-not_opened}
use Rattle.cook_restore.proofs.opening.package_outline.Goals as goal

pub returns-in-Err-clause-stopped : goal.returns-in-Err-clause-stopped
returns-in-Err-clause-stopped g c =
    outlined-not_opened _ c.args.pkg.now c.args.len (g.S.Shelf.faults c.args.shelf.now) (g.S.Shelf.faults c.outline.new.shelf) c.in-Err.error c.not_outlined.result c.requires.there (λ known. c.in-Err.ensures.fault known (c.requires.len known)) c.in-Err.ensures.cause c.not_outlined.ensures

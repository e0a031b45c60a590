use Rattle.std.proofs.Common.{sym, ◌∙◌}
use Rattle.shelf_core.specs.FileLaws.{HasFile-length_of, length_of-some}
use Rattle.cook_restore.proofs.OpenLaws.{IsFree-length_of, missing-not_opened}
use Rattle.cook_restore.proofs.opening.package_len.Goals as goal

pub returns-in-Some-clause-there : goal.returns-in-Some-clause-there
returns-in-Some-clause-there g c = HasFile-length_of _ _ c.in-Some.len (λ known. sym c.in-Some.is ∙ c.in_ok-len.ensures.length known)

pub returns-in-Some-clause-len : goal.returns-in-Some-clause-len
returns-in-Some-clause-len g c = λ known. length_of-some _ _ c.in-Some.len known (sym c.in-Some.is ∙ c.in_ok-len.ensures.length known)

pub returns-in-None-clause-stopped : goal.returns-in-None-clause-stopped
returns-in-None-clause-stopped g c =
    missing-not_opened _ c.args.pkg.now (g.S.Shelf.faults c.args.shelf.now) (g.S.Shelf.faults c.len.new.self) c.missing.result (IsFree-length_of _ _ (λ known. sym c.in-None.is ∙ c.in_ok-len.ensures.length known)) c.missing.ensures

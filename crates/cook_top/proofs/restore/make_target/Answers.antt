use Rattle.cook_top.proofs.RestoreLaws.{empty_target, occupied_target}
use Rattle.cook_top.proofs.restore.make_target.Goals as goal

pub returns-in-None-clause-empty : goal.returns-in-None-clause-empty
returns-in-None-clause-empty g c =
    let listed = rw c.make_folder.ensures.files at c.in_ok-entries.ensures.listed in
    empty_target (g.S.Shelf.files c.args.shelf.now) c.args.dir.now c.in_ok-entries.entries.items listed c.in-None.ensures

pub returns-in-Some-clause-stopped : goal.returns-in-Some-clause-stopped
returns-in-Some-clause-stopped g c =
    let listed = rw c.make_folder.ensures.files at c.in_ok-entries.ensures.listed in
    occupied_target (g.S.Shelf.files c.args.shelf.now) c.args.dir.now c.in-Some.name c.in_ok-entries.entries.items listed c.in-Some.ensures

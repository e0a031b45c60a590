use Rattle.std.proofs.Common.{Err, sym, ap, ◌∙◌, subst}
use Rattle.std.proofs.lemmas.Result.{err_from_is_err_and}
use Rattle.shelf_core.specs.Writes.{Grew, GrewInPart}
use Rattle.cook_restore.specs.Giving.{NotAdded}
use Rattle.cook_restore.specs.declared.error.FileWhy.TheVariants.{Sum}
use Rattle.cook_restore.proofs.GiveLaws.{inside-checked, grew-held, part-held, another-added, not-copied}
use Rattle.cook_restore.proofs.giving.add_content.Goals as goal

pub returns-in_err-append-clause-stopped : goal.returns-in_err-append-clause-stopped
returns-in_err-append-clause-stopped g c =
    let p = err_from_is_err_and c.from_residual.result c.from_residual.ensures.1 in
    let part : GrewInPart g.S.Shelf c.args.shelf.now c.append.new.self c.args.to.now _ = record { files = c.in_err-append.ensures.err; unsealed = c.append.ensures.unsealed; faults = c.append.ensures.cause.faults_kept; starved = c.append.ensures.cause.starved_kept } in
    rw (p.1, p.2) (part-held g.S.Shelf c.args.shelf.now c.append.new.self c.args.pkg.name.now c.args.to.now _ c.args.content _ (c.requires.held c.if-content-buffer.true) part
    (λ failed. c.append.ensures.cause.fault (c.in_err-append.was ∙ ap Err failed)) (λ failed. c.append.ensures.cause.want (c.in_err-append.was ∙ ap Err failed)))

pub returns-then-content-buffer-clause-added : goal.returns-then-content-buffer-clause-added
returns-then-content-buffer-clause-added g c =
    let grew : Grew g.S.Shelf c.args.shelf.now c.append.new.self c.args.to.now _ = record { files = c.in_ok-append.ensures.ok; unsealed = c.append.ensures.unsealed; faults = c.append.ensures.cause.faults_kept; starved = c.append.ensures.cause.starved_kept } in
    grew-held g.S.Shelf c.args.shelf.now c.append.new.self c.args.to.now _ _ (c.requires.held c.if-content-buffer.true) grew

pub copy_part-requires-clause-measured : goal.copy_part-requires-clause-measured
copy_part-requires-clause-measured g c = inside-checked g.S.Shelf c.args.shelf.now c.args.pkg.name.now _ _ c.requires.checked

pub returns-in-Ok-2-clause-stopped : goal.returns-in-Ok-2-clause-stopped
returns-in-Ok-2-clause-stopped g c = another-added g.S.Shelf c.args.shelf.now _ c.args.pkg.name.now c.args.to.now c.in-Ok.sum _ _ Sum c.requires.checked c.in-Ok.ensures.copied c.in-Ok.ensures.sum (sym c.if-eq.ensures)

pub returns-in-Err-clause-stopped : goal.returns-in-Err-clause-stopped
returns-in-Err-clause-stopped g c =
    subst (NotAdded g.S.Shelf c.args.shelf.now c.copy_part.new.shelf c.args.pkg.name.now c.args.content c.args.to.now) (sym c.of_piece.ensures)
    (not-copied g.S.Shelf c.args.shelf.now c.copy_part.new.shelf c.args.pkg.name.now c.args.to.now c.args.content c.args.pkg.len c.in-Err.error c.in-Err.ensures.stopped c.requires.ends c.in-Err.ensures.short c.in-Err.ensures.whole
    (λ failed. c.copy_part.ensures.cause.fault (c.in-Err.is ∙ ap Err failed)) (λ failed. c.copy_part.ensures.cause.want (c.in-Err.is ∙ ap Err failed)))

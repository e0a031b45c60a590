use Rattle.std.proofs.Common.{Err, ap, ◌∙◌}
use Rattle.std.proofs.lemmas.Result.{err_from_is_err_and}
use Rattle.shelf_core.specs.Reads.{CountsStay}
use Rattle.shelf_core.specs.Writes.{Created}
use Rattle.cook_restore.proofs.GiveLaws.{checked-created, held-created, not-written, written, not-sealed}
use Rattle.cook_restore.proofs.giving.write_content.Goals as goal

pub add_content-requires-clause-checked : goal.add_content-requires-clause-checked
add_content-requires-clause-checked g c =
    let created : Created g.S.Shelf c.args.shelf.now c.create.new.self c.args.to.now = record { free = c.in_ok-create.ensures.free; not_unsealed = c.in_ok-create.ensures.not_unsealed; files = c.in_ok-create.ensures.created; unsealed = c.in_ok-create.ensures.unsealed; faults = c.create.ensures.cause.faults_kept; starved = c.create.ensures.cause.starved_kept } in
    checked-created g.S.Shelf c.args.shelf.now c.create.new.self c.args.pkg.name.now c.args.to.now _ _ created c.requires.there c.requires.checked

pub add_content-requires-clause-held : goal.add_content-requires-clause-held
add_content-requires-clause-held g c =
    let created : Created g.S.Shelf c.args.shelf.now c.create.new.self c.args.to.now = record { free = c.in_ok-create.ensures.free; not_unsealed = c.in_ok-create.ensures.not_unsealed; files = c.in_ok-create.ensures.created; unsealed = c.in_ok-create.ensures.unsealed; faults = c.create.ensures.cause.faults_kept; starved = c.create.ensures.cause.starved_kept } in
    held-created g.S.Shelf c.args.shelf.now c.create.new.self c.args.pkg.name.now c.args.to.now _ _ created c.requires.there c.requires.held

pub returns-in_err-add_content-clause-stopped : goal.returns-in_err-add_content-clause-stopped
returns-in_err-add_content-clause-stopped g c =
    let p = err_from_is_err_and c.from_residual-in_err-add_content.result c.from_residual-in_err-add_content.ensures.1 in
    let created : Created g.S.Shelf c.args.shelf.now c.create.new.self c.args.to.now = record { free = c.in_ok-create.ensures.free; not_unsealed = c.in_ok-create.ensures.not_unsealed; files = c.in_ok-create.ensures.created; unsealed = c.in_ok-create.ensures.unsealed; faults = c.create.ensures.cause.faults_kept; starved = c.create.ensures.cause.starved_kept } in
    rw (p.1, p.2) (not-written g.S.Shelf c.args.shelf.now c.create.new.self c.add_content.new.shelf c.args.pkg.name.now c.args.to.now c.args.content _ (g.met.S.Shelf.told_together _) created c.requires.there c.in_err-add_content.ensures.stopped)

pub returns-in_err-seal-clause-stopped : goal.returns-in_err-seal-clause-stopped
returns-in_err-seal-clause-stopped g c =
    let p = err_from_is_err_and c.from_residual-in_err-seal.result c.from_residual-in_err-seal.ensures.1 in
    let created : Created g.S.Shelf c.args.shelf.now c.create.new.self c.args.to.now = record { free = c.in_ok-create.ensures.free; not_unsealed = c.in_ok-create.ensures.not_unsealed; files = c.in_ok-create.ensures.created; unsealed = c.in_ok-create.ensures.unsealed; faults = c.create.ensures.cause.faults_kept; starved = c.create.ensures.cause.starved_kept } in
    rw (p.1, p.2) (not-sealed g.S.Shelf c.args.shelf.now c.create.new.self c.add_content.new.shelf c.seal.new.self c.args.pkg.name.now c.args.to.now c.args.content _ created c.requires.there c.in_ok-add_content.ensures.added c.seal.ensures.files c.in_err-seal.ensures.unsealed_kept
    (λ failed. c.seal.ensures.cause.fault (c.in_err-seal.was ∙ ap Err failed)) (λ failed. c.seal.ensures.cause.want (c.in_err-seal.was ∙ ap Err failed)))

pub returns-clause-written : goal.returns-clause-written
returns-clause-written g c =
    let created : Created g.S.Shelf c.args.shelf.now c.create.new.self c.args.to.now = record { free = c.in_ok-create.ensures.free; not_unsealed = c.in_ok-create.ensures.not_unsealed; files = c.in_ok-create.ensures.created; unsealed = c.in_ok-create.ensures.unsealed; faults = c.create.ensures.cause.faults_kept; starved = c.create.ensures.cause.starved_kept } in
    let counts : CountsStay g.S.Shelf c.add_content.new.shelf c.seal.new.self = record { faults = c.seal.ensures.cause.faults_kept; starved = c.seal.ensures.cause.starved_kept } in
    written g.S.Shelf c.args.shelf.now c.create.new.self c.add_content.new.shelf c.seal.new.self c.args.pkg.name.now c.args.to.now c.args.content created c.requires.there c.in_ok-add_content.ensures.added c.seal.ensures.files c.in_ok-seal.ensures.sealed counts

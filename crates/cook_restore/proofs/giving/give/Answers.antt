use Rattle.std.proofs.Common.{ap, ◌∙◌, rules}
use Rattle.std.specs.Option.{option_map}
use Rattle.std.proofs.lemmas.Result.{err_from_is_err_and}
use Rattle.cook_bits.specs.Names.{full_name}
use Rattle.shelf_core.specs.Reads.{OnlyReads}
use Rattle.cook_restore.proofs.GiveLaws.{given-nowhere, given-in, checked-then, held-then, not_given}
use Rattle.cook_restore.proofs.giving.give.Goals as goal

pub write_content-requires-clause-checked : goal.write_content-requires-clause-checked
write_content-requires-clause-checked g c =
    let kept : OnlyReads g.S.Shelf c.args.shelf.now c.make_folders.new.shelf = search rules in
    checked-then g.S.Shelf c.args.shelf.now c.make_folders.new.shelf c.args.pkg.name.now _ _ kept c.in_ok-content.ensures.checked

pub write_content-requires-clause-held : goal.write_content-requires-clause-held
write_content-requires-clause-held g c =
    let kept : OnlyReads g.S.Shelf c.args.shelf.now c.make_folders.new.shelf = search rules in
    held-then g.S.Shelf c.args.shelf.now c.make_folders.new.shelf c.args.pkg.name.now _ _ kept c.in_ok-content.ensures.held

pub returns-in_err-write_content-clause-stopped : goal.returns-in_err-write_content-clause-stopped
returns-in_err-write_content-clause-stopped g c =
    let p = err_from_is_err_and c.from_residual-in_err-write_content.result c.from_residual-in_err-write_content.ensures.1 in
    let kept : OnlyReads g.S.Shelf c.args.shelf.now c.make_folders.new.shelf = search rules in
    let named = c.as_str-in-Some.ensures ∙ c.in_ok-full.ensures ∙ ap (full_name c.in-Some.dir.now) c.as_str-name.ensures in
    rw (p.1, p.2) (not_given g.S.Shelf c.args.shelf.now c.make_folders.new.shelf c.write_content.new.shelf c.args.pkg.name.now c.in-Some.dir.now _ c.args.pkg.len c.args.task.said.now c.args.task.content c.in_ok-content.content _ _ kept
    named (ap (option_map (λ d. d.now)) c.in-Some.is) c.in_ok-content.ensures.same c.in_ok-content.ensures.checked c.in_err-write_content.ensures.stopped)

pub returns-in_ok-write_content-clause-given : goal.returns-in_ok-write_content-clause-given
returns-in_ok-write_content-clause-given g c =
    let kept : OnlyReads g.S.Shelf c.args.shelf.now c.make_folders.new.shelf = search rules in
    let named = c.as_str-in-Some.ensures ∙ c.in_ok-full.ensures ∙ ap (full_name c.in-Some.dir.now) c.as_str-name.ensures in
    given-in g.S.Shelf c.args.shelf.now c.make_folders.new.shelf c.write_content.new.shelf c.args.pkg.name.now c.in-Some.dir.now _ c.args.pkg.len c.args.task.said.now c.args.task.content c.in_ok-content.content _ kept
    named (ap (option_map (λ d. d.now)) c.in-Some.is) c.in_ok-write_content.ensures.written c.in_ok-content.ensures.same c.in_ok-content.ensures.checked

pub returns-in_default-clause-given : goal.returns-in_default-clause-given
returns-in_default-clause-given g c =
    given-nowhere g.S.Shelf c.args.shelf.now c.checked_content.new.shelf c.args.pkg.name.now c.args.pkg.len c.args.task.said.now c.args.task.content c.in_ok-content.content _ c.checked_content.ensures.kept c.in_ok-content.ensures.same c.in_ok-content.ensures.checked
    (ap (option_map (λ d. d.now)) c.in_default.is)

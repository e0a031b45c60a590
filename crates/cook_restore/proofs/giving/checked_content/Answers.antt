use Rattle.std.proofs.Common.{sym}
use Rattle.std.specs.Option.{option_map}
use Rattle.cook_restore.proofs.GiveLaws.{missing-checked, length-checked, sum-checked}
use Rattle.cook_restore.proofs.giving.checked_content.Goals as goal

pub returns-in_default-clause-stopped : goal.returns-in_default-clause-stopped
returns-in_default-clause-stopped g c = missing-checked g.S.Shelf c.args.shelf.now c.args.shelf.now c.args.pkg.name.now c.args.pkg.len c.args.task.said.now c.args.task.content (option_map (λ dir. dir.now) c.args.task.target) c.in_default.is

pub returns-then-content-task-clause-stopped : goal.returns-then-content-task-clause-stopped
returns-then-content-task-clause-stopped g c =
    length-checked g.S.Shelf c.args.shelf.now c.args.shelf.now c.args.pkg.name.now c.args.pkg.len c.args.task.said.now c.args.task.content c.in-Some.content (option_map (λ dir. dir.now) c.args.task.target) c.in-Some.is c.requires.ends c.if-content-task.true

pub returns-in-Ok-2-clause-stopped : goal.returns-in-Ok-2-clause-stopped
returns-in-Ok-2-clause-stopped g c =
    sum-checked g.S.Shelf c.args.shelf.now c.sum_part.new.shelf c.args.pkg.name.now c.in-Ok.sum c.args.pkg.len c.args.task.said.now c.args.task.content c.in-Some.content (option_map (λ dir. dir.now) c.args.task.target) c.in-Some.is c.if-content-task.false
    c.in-Ok.ensures.long c.in-Ok.ensures.sum (sym c.if-eq.ensures)

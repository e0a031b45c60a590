use Rattle.std.proofs.Common.{Some, subst, sym, ◌∙◌}
use Rattle.cook_top.specs.Laws.{Shows}
use Rattle.cook_top.specs.Orders.Order.{Pack}
use Rattle.cook_top.proofs.TopLaws.{reports-packed}
use Rattle.cook_top.proofs.top.pack_order.Goals as goal

pub returns-in-Ok-clause-report : goal.returns-in-Ok-clause-report
returns-in-Ok-clause-report g c = reports-packed _ _ _ _ _ _ _ _ _ _ _ _ c.report.ensures.done c.in-Ok.ensures.sum c.report.ensures.written

pub returns-in-Err-clause-shown : goal.returns-in-Err-clause-shown
returns-in-Err-clause-shown g c =
    let order = Some (Pack c.args.options.workers c.args.options.rate c.args.dir.now c.args.pkg.now) in
    subst (Shows g.S.Shelf g.O.Sink order c.args.shelf.now c.pack_directory.new.shelf c.args.out.now c.refuse.new.out) (sym (c.refuse.ensures.status ∙ c.from.ensures)) (c.in-Err.ensures.cause _ _)

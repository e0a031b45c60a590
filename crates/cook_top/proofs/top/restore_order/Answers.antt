use Rattle.std.proofs.Common.{Some, subst, sym}
use Rattle.cook_top.specs.Laws.{Shows}
use Rattle.cook_top.specs.Orders.Order.{Restore}
use Rattle.cook_top.proofs.RestoreLaws.{reports-restored, reports-refused}
use Rattle.cook_top.proofs.top.restore_order.Goals as goal

pub returns-in-Ok-clause-report : goal.returns-in-Ok-clause-report
returns-in-Ok-clause-report g c = reports-restored c.args.workers _ _ _ _ _ _ _ _ _ _ c.report_restored.ensures.done c.in-Ok.ensures.sum c.report_restored.ensures.written

pub returns-in-Err-clause-shown : goal.returns-in-Err-clause-shown
returns-in-Err-clause-shown g c =
    subst (Shows g.S.Shelf g.O.Sink (Some (Restore c.args.workers c.args.pkg.now c.args.dir.now)) c.args.shelf.now c.restore_package.new.shelf c.args.out.now c.refuse.new.out)
    (sym c.refuse.ensures.status) (c.in-Err.ensures.cause _ _)

pub returns-in-Err-clause-report : goal.returns-in-Err-clause-report
returns-in-Err-clause-report g c = rw c.refuse.ensures.status (reports-refused _ _ _ _ _ _ _ c.in-Err.ensures.undone c.refuse.ensures.front c.refuse.ensures.whole)

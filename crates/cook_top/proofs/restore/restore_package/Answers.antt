use Rattle.std.proofs.Common.{Some}
use Rattle.cook_top.specs.Orders.Order.{Restore}
use Rattle.cook_top.proofs.RestoreLaws.{shown_later}
use Rattle.cook_top.proofs.restore.restore_package.Goals as goal

pub returns-clause-cause : goal.returns-clause-cause
returns-clause-cause g c = λ sink sink_now. shown_later (Some (Restore c.args.workers c.args.pkg.now c.args.dir.now)) _ _ _ _ _ _ _ _ c.make_target.ensures.kept.files c.make_target.ensures.kept.faults (c.restore_files.ensures.cause sink sink_now)

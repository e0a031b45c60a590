use Rattle.std.proofs.Common.{get_or, arith}
use Rattle.std.proofs.lemmas.List.{get_or_default}
use Rattle.ffv1_params.proofs.RunLaws.{none_put, one_put}
use Rattle.ffv1_params.proofs.fields.put_runs.Goals as goal

pub loop-run-init : goal.loop-run-init
loop-run-init c = none_put c.args.table.now c.fresh-states.result c.args.encoder.now.interval c.fresh-states.ensures.states (c.fresh-states.ensures.live c.args.table.now c.requires.fresh)

pub loop-run-preserved : goal.loop-run-preserved
loop-run-preserved c =
    let joined = c.lists_are_joined.ensures in
    let puts = c.in_ok-put_number.ensures.ok in
    one_put joined.narrowed joined.decided joined.states c.args.table.now c.loop-run.states c.put_number.new.states c.args.encoder.now.interval c.loop-run.encoder.interval c.put_number.new.encoder.interval c.args.runs.now c.loop-run.run-index (get_or c.args.runs.now c.loop-run.run-index 0) (omega arith) (get_or_default c.args.runs.now c.loop-run.run-index 0 (get_or c.args.runs.now c.loop-run.run-index 0) (omega arith)) c.loop-run.invariant puts.interval puts.adapts c.put_number.ensures.live

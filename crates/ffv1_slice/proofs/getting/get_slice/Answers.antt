use Rattle.std.proofs.Common.{arith}
use Rattle.std.proofs.lemmas.Result.{err_from_is_err_and}
use Rattle.ffv1_slice.proofs.WholeSlice.{states_fresh, states_live, front_refused, rows_refused, slice_got}
use Rattle.ffv1_slice.proofs.getting.get_slice.Goals as goal

pub get_front-requires-clause-live : goal.get_front-requires-clause-live
get_front-requires-clause-live c =
    states_live c.sets_of_states.ensures c.args.params.now _ _ c.refresh.ensures (c.table-table.ensures.live 128 (omega arith) (omega arith))

pub returns-in_err-head-clause-err : goal.returns-in_err-head-clause-err
returns-in_err-head-clause-err c =
    let p = err_from_is_err_and c.from_residual.result c.from_residual.ensures.1 in
    rw (p.1, p.2) (front_refused c.args.params.now _ _ _ _ _ _ _ _ (states_fresh c.args.params.now _ _ c.refresh.ensures c.requires.slots) c.in_err-head.ensures.err)

pub returns-in_err-get_rows-clause-err : goal.returns-in_err-get_rows-clause-err
returns-in_err-get_rows-clause-err c =
    let p = err_from_is_err_and c.from_residual-in_err-get_rows.result c.from_residual-in_err-get_rows.ensures.1 in
    rw (p.1, p.2) (rows_refused c.args.params.now _ _ _ _ _ _ _ _ _ (states_fresh c.args.params.now _ _ c.refresh.ensures c.requires.slots) c.in_ok-head.ensures.ok c.in_err-get_rows.ensures.err)

pub returns-clause-ok : goal.returns-clause-ok
returns-clause-ok c =
    slice_got c.args.params.now _ _ _ _ _ _ _ _ _ _ _ _ (states_fresh c.args.params.now _ _ c.refresh.ensures c.requires.slots) c.in_ok-head.ensures.ok c.in_ok-get_rows.ensures.ok

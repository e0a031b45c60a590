use Rattle.std.proofs.Common.{refl, arith}
use Rattle.ffv1_slice.proofs.Encoding.{if_ok}
use Rattle.ffv1_slice.proofs.HeadsRead.{first_states, head_read, head_fails}
use Rattle.ffv1_slice.proofs.WholeSlice.{if_err}
use Rattle.ffv1_slice.proofs.taking.read_head.Goals as goal

pub get_front-requires-clause-live : goal.get_front-requires-clause-live
get_front-requires-clause-live c = c.sets_of_states.ensures.fresh c.args.params.now.table 33 (c.table-table.ensures.live 128 (omega arith) (omega arith))

pub returns-clause-ok : goal.returns-clause-ok
returns-clause-ok c =
    if_ok c.get_front.result _ _ (λ head h.
    head_read c.codings_are_joined.ensures c.sets_of_states.ensures c.symbol_slots.ensures.number c.args.params.now c.args.first c.args.bytes.now _ _ _ _ head
    (first_states c.sets_stand_apart.ensures.decided c.args.params.now _ refl) c.in-Some.ensures.begins h) c.get_front.ensures.ok

pub returns-clause-err : goal.returns-clause-err
returns-clause-err c =
    if_err c.get_front.result _ _ (λ fault h.
    head_fails c.codings_are_joined.ensures c.sets_of_states.ensures c.symbol_slots.ensures.number c.symbol_slots.ensures.overlong c.args.params.now c.args.first c.args.bytes.now _ _ _ _ fault
    (first_states c.sets_stand_apart.ensures.decided c.args.params.now _ refl) c.in-Some.ensures.begins h) c.get_front.ensures.err

use Rattle.std.proofs.Common.{◌∙◌}
use Rattle.ffv1_slice.proofs.Encoding.{if_ok}
use Rattle.ffv1_slice.proofs.Rooms.{room_kept}
use Rattle.ffv1_slice.proofs.WholeSlice.{slice_read, slice_fails, if_err}
use Rattle.ffv1_slice.proofs.scratch.decode.Goals as goal

pub invariant_of-scratch : goal.invariant_of-scratch
invariant_of-scratch c =
    room_kept _ _ c.scratch.inside.states.items _ c.scratch.inside.planes c.clear.new.self _ c.scratch.invariant c.get_slice_with.ensures.count c.clear.ensures.luma c.clear.ensures.blue c.clear.ensures.red c.get_slice_with.ensures.room

pub returns-clause-ok : goal.returns-clause-ok
returns-clause-ok c =
    if_ok c.get_slice_with.result _ _ (λ head h.
    slice_read c.codings_are_joined.ensures c.args.params.now c.args.first c.args.width c.args.height c.args.bytes.now _ head _ c.requires.width_some (c.get_slice_with.auto.tile ∙ c.requires.tile) c.in-Some.ensures.begins h) c.get_slice_with.ensures.ok

pub returns-clause-err : goal.returns-clause-err
returns-clause-err c =
    if_err c.get_slice_with.result _ _ (λ fault h.
    slice_fails c.codings_are_joined.ensures c.sets_of_states.ensures c.symbol_slots.ensures.number c.symbol_slots.ensures.overlong c.args.params.now c.args.first c.args.width c.args.height c.args.bytes.now _ fault c.requires.width_some c.in-Some.ensures.begins h) c.get_slice_with.ensures.err

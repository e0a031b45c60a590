use Rattle.std.proofs.Common.{refl, arith}
use Rattle.ffv1_slice.proofs.Rooms.{rooms_joined}
use Rattle.ffv1_slice.proofs.RowsRead.{no_rows_read, row_stored, row_is_long, row_is_wide}
use Rattle.ffv1_slice.proofs.getting.get_rows.Goals as goal

pub loop-y-init : goal.loop-y-init
loop-y-init c = no_rows_read _ _ _ _ _ _ _ _ c.half_of-half.ensures.power (omega arith) c.requires.live c.requires.planes

pub returns-in_default-clause-err : goal.returns-in_default-clause-err
returns-in_default-clause-err c =
    row_is_long _ _ _ _ _ _ _ _ _ _ _ _ _ c.loop-y.tile c.loop-y.y (omega arith) c.loop-y.invariant c.in_default.ensures.err

pub returns-in_default-clause-room : goal.returns-in_default-clause-room
returns-in_default-clause-room c = rooms_joined _ _ _ c.loop-y.invariant.room c.decode_planes.ensures.room

pub returns-then-not-store_row-clause-err : goal.returns-then-not-store_row-clause-err
returns-then-not-store_row-clause-err c =
    row_is_wide _ _ _ _ _ _ _ _ _ _ _ _ _ c.decode_planes.new.planes c.loop-y.tile _ _ _ c.loop-y.y (omega arith) c.loop-y.invariant c.in-Ok.ensures.ok c.as_slice-luma.ensures.value c.as_slice-blue.ensures.value c.as_slice-red.ensures.value (c.store_row.ensures.leaves c.if-not-store_row.true)

pub returns-then-not-store_row-clause-room : goal.returns-then-not-store_row-clause-room
returns-then-not-store_row-clause-room c = rooms_joined _ _ _ c.loop-y.invariant.room c.decode_planes.ensures.room

pub loop-y-preserved : goal.loop-y-preserved
loop-y-preserved c =
    row_stored _ _ _ _ _ _ _ _ _ _ _ _ _ _ _ _ _ _ _ c.loop-y.y _ c.requires.some c.loop-y.invariant c.in-Ok.ensures.ok c.decode_planes.ensures.room c.is_from_green-green_based.ensures refl c.as_slice-luma.ensures.value c.as_slice-blue.ensures.value c.as_slice-red.ensures.value (c.store_row.ensures.stored c.if-not-store_row.false)

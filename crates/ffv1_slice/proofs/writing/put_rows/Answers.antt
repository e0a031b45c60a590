use Rattle.std.proofs.Common.{length, arith}
use Rattle.ffv1_slice.proofs.Encoding.{no_rows_put, row_put_as, planes_as_wide}
use Rattle.ffv1_slice.proofs.writing.put_rows.Goals as goal

pub loop-y-init : goal.loop-y-init
loop-y-init c = no_rows_put _ _ _ _ _ _ _ _ (omega arith) c.requires.live c.requires.luma c.requires.blue c.requires.red

pub loop-y-preserved : goal.loop-y-preserved
loop-y-preserved c =
    row_put_as c.args.params.now c.args.head.now (length c.args.symbols.now) c.args.tile.now c.row_of-pixels.result.now _ _ _ _ _ _ _ _ _ _ _ c.requires.some c.half_of-half.ensures.power c.is_from_green-green_based.ensures c.loop-y.invariant c.row_of-pixels.ensures.pixels
    c.load_planes.ensures.luma c.load_planes.ensures.blue c.load_planes.ensures.red (planes_as_wide c.args.params.now c.args.head.now c.load_planes.new.planes (length c.loop-y.symbols) (length c.args.symbols.now) _ _ _ _ _ (omega arith) c.in_ok-encode_planes.ensures.ok) c.encode_planes.ensures.live

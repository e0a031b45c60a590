use Rattle.std.proofs.Common.{arith, refl, sym}
use Rattle.dpx_packing.proofs.TileMoves.{tiles-none, put-one-more, all-put}
use Rattle.dpx_packing.proofs.tiling.put_tiles.Goals as goal

pub loop-i-init : goal.loop-i-init
loop-i-init c = record { at = refl; so_far = sym (tiles-none _ 0 c.args.tiles.now _ c.args.buffer.now) }

pub loop-i-preserved : goal.loop-i-preserved
loop-i-preserved c = record {
  at = c.part_end-end.ensures.next;
  so_far = put-one-more _ c.args.layout.now.height _ _ _ _ _ _ _ _ c.requires.once c.loop-i-test.true c.loop-i.invariant.so_far c.put_tile.ensures.put refl (omega arith) c.put_tile.ensures.kept;
}

pub returns : goal.returns
returns c = all-put _ c.args.layout.now.height _ _ _ _ _ c.requires.once c.loop-i-test.false c.loop-i.invariant.at c.loop-i.invariant.so_far c.requires.buffer_len

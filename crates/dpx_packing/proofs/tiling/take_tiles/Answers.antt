use Rattle.std.proofs.Common.{rules, arith, refl}
use Rattle.dpx_packing.proofs.TileMoves.{tiles-none, take-one-more, all-taken}
use Rattle.dpx_packing.proofs.tiling.take_tiles.Goals as goal

pub loop-i-init : goal.loop-i-init
loop-i-init c = record { at = refl; so_far = tiles-none _ 0 c.args.tiles.now _ c.args.buffer.now }

pub loop-i-preserved : goal.loop-i-preserved
loop-i-preserved c = record {
  at = c.part_end-end.ensures.next;
  so_far = take-one-more _ _ _ _ _ _ _ _ c.loop-i-test.true c.loop-i.invariant.so_far (omega arith) (search rules) c.take_tile.ensures;
}

pub returns : goal.returns
returns c = all-taken _ c.args.layout.now.height _ _ _ _ _ c.requires.once c.loop-i-test.false c.loop-i.invariant.at c.loop-i.invariant.so_far (omega arith)

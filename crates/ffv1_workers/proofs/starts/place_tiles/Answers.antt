use Rattle.std.proofs.Common.{◌+◌, ◌∙◌, sym, ap, length, arith, refl, length-set}
use Rattle.dpx_packing.specs.declared.tile.Tile.{Tile}
use Rattle.dpx_packing.specs.Tiles.{tile_size}
use Rattle.ffv1_frame.specs.Parts.{tiles_of}
use Rattle.ffv1_workers.proofs.StartLaws.{long, tile-at, sum-next, starts-none, starts-more, starts-all}
use Rattle.ffv1_workers.proofs.starts.place_tiles.Goals as goal

pub loop-i-init : goal.loop-i-init
loop-i-init c =
    let room = c.requires.room in
    record {
      at = refl;
      small = omega arith;
      size = length-set c.args.bounds.now 0 0 ∙ room;
      so_far = starts-none (tiles_of c.args.grid.now c.args.parts.now) c.args.bounds.now (omega (arith, room));
    }

pub loop-i-preserved : goal.loop-i-preserved
loop-i-preserved c =
    let low = c.loop-i-test.true in
    let size = c.loop-i.invariant.size in
    let next = sum-next (tiles_of c.args.grid.now c.args.parts.now) c.loop-i.i c.loop-i.at c.tile_len-at.result (omega (arith, long c.args.grid.now c.args.parts.now, low)) c.loop-i.invariant.at
    (c.tile_len-at.ensures.exact ∙ ap (λ (t : Tile). tile_size t) (sym (tile-at c.args.grid.now c.args.parts.now c.loop-i.i _ low))) in
    record {
      at = next;
      small = let s = c.loop-i.invariant.small in let h = c.tile_len-at.ensures.high in omega (arith, s, h);
      size = length-set c.loop-i.bounds (c.loop-i.i + 1) (c.loop-i.at + c.tile_len-at.result) ∙ size;
      so_far = starts-more (tiles_of c.args.grid.now c.args.parts.now) c.loop-i.bounds c.loop-i.i (c.loop-i.at + c.tile_len-at.result) (omega (arith, size, low)) next c.loop-i.invariant.so_far;
    }

pub returns : goal.returns
returns c =
    starts-all (tiles_of c.args.grid.now c.args.parts.now) c.loop-i.bounds c.loop-i.i (length c.args.parts.now) (long c.args.grid.now c.args.parts.now) c.loop-i.invariant.size c.loop-i-test.false c.loop-i.invariant.so_far

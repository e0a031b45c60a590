use Rattle.std.proofs.Common.{◌+◌, ◌∙◌, sym, ap, arith, refl, length-set}
use Rattle.dpx_packing.specs.declared.tile.Tile.{Tile}
use Rattle.dpx_packing.specs.Tiles.{tile_size}
use Rattle.ffv1_slice.specs.declared.head.SliceHead.{SliceHead}
use Rattle.ffv1_frame.specs.Grid.{tile_of}
use Rattle.ffv1_workers.specs.Frames.{row_tiles}
use Rattle.ffv1_workers.proofs.StartLaws.{rows-long, row-tile-at, sum-next, starts-none, starts-more, starts-all}
use Rattle.ffv1_workers.proofs.starts.place_rows.Goals as goal

pub loop-row-preserved : goal.loop-row-preserved
loop-row-preserved c =
    let low = c.loop-row-test.true in
    let size = c.loop-row.invariant.size in
    let next = sum-next (row_tiles c.args.grid.now) c.loop-row.row c.loop-row.at c.tile_len-at.result (omega (arith, rows-long c.args.grid.now, low)) c.loop-row.invariant.at
    (c.tile_len-at.ensures.exact
    ∙ ap (λ (h : SliceHead). tile_size (tile_of c.args.grid.now h)) c.head_of_row.ensures
    ∙ ap (λ (t : Tile). tile_size t) (sym (row-tile-at c.args.grid.now c.loop-row.row low))) in
    record {
      at = next;
      small = let s = c.loop-row.invariant.small in let h = c.tile_len-at.ensures.high in omega (arith, s, h);
      size = length-set c.loop-row.bounds (c.loop-row.row + 1) (c.loop-row.at + c.tile_len-at.result) ∙ size;
      so_far = starts-more (row_tiles c.args.grid.now) c.loop-row.bounds c.loop-row.row (c.loop-row.at + c.tile_len-at.result) (omega (arith, size, low)) next c.loop-row.invariant.so_far;
    }

pub loop-row-init : goal.loop-row-init
loop-row-init c =
    let room = c.requires.room in
    record {
      at = refl;
      small = omega arith;
      size = length-set c.args.bounds.now 0 0 ∙ room;
      so_far = starts-none (row_tiles c.args.grid.now) c.args.bounds.now (omega (arith, room));
    }

pub returns : goal.returns
returns c =
    starts-all (row_tiles c.args.grid.now) c.loop-row.bounds c.loop-row.row c.args.grid.now.rows (rows-long c.args.grid.now) c.loop-row.invariant.size c.loop-row-test.false c.loop-row.invariant.so_far

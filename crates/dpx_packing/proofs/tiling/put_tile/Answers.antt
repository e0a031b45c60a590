use Rattle.std.proofs.Common.{◌*◌, ◌≡◌, length, rules, arith, sym}
use Rattle.dpx_packing.specs.Tiles.{tile_line, tile_samples}
use Rattle.dpx_packing.proofs.TileLines.{copied-none, all-copied, length-part}
use Rattle.dpx_packing.proofs.TileMoves.{put-more, kept-none, kept-more}
use Rattle.dpx_packing.proofs.tiling.put_tile.Goals as goal

pub loop-row-init : goal.loop-row-init
loop-row-init c = record { put = sym (copied-none _ _ _); kept = kept-none _ _ _ }

pub loop-row-preserved : goal.loop-row-preserved
loop-row-preserved c =
    let long : length c.copy_from_slice.new.self ≡ 3 * c.args.tile.now.width =
    length-part (c.loop-row.row * (3 * c.args.tile.now.width)) (3 * c.args.tile.now.width) c.args.part.now c.copy_from_slice.new.self (search rules) c.copy_from_slice.ensures.after in
    record {
      put = put-more c.args.layout.now.width c.args.layout.now.height c.loop-row.row c.line_start-to.result c.args.tile.now c.loop-row.samples c.args.part.now c.copy_from_slice.new.self
          c.requires.inside c.loop-row.invariant.put c.line_start-to.ensures.exact (omega arith) c.copy_from_slice.ensures.after long;
      kept = kept-more c.args.layout.now.width c.args.layout.now.height c.loop-row.row c.line_start-to.result c.args.tile.now c.args.samples.now c.loop-row.samples c.copy_from_slice.new.self
          c.requires.inside c.loop-row.invariant.kept c.loop-row-test.true c.line_start-to.ensures.exact (omega arith) long;
    }

pub returns : goal.returns
unfolding tile_samples
returns c =
    record {
      put = sym (all-copied (tile_line c.args.layout.now.width c.loop-row.samples c.args.tile.now) (3 * c.args.tile.now.width) c.loop-row.row c.args.tile.now.height c.args.part.now
          (sym c.loop-row.invariant.put) (omega arith) (omega arith) (omega arith));
      kept = c.loop-row.invariant.kept;
    }

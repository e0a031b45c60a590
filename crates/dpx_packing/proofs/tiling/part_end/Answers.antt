use Rattle.std.proofs.Common.{◌≡◌, ◌+◌, ◌*◌, ◌<◌, ◌≤◌, ◌^◌, ap, arith}
use Rattle.dpx_header.specs.Layout.{sample_count}
use Rattle.dpx_packing.specs.Tiles.{tile_at, tile_size}
use Rattle.dpx_packing.proofs.TileMoves.{end-is, end-high}
use Rattle.dpx_packing.proofs.tiling.part_end.Goals as goal

pub overflow_add-result : goal.overflow_add-result
overflow_add-result c =
    let is : c.args.at + c.tile_len.result ≡ c.args.at + tile_size (tile_at c.args.tiles.now c.args.i) = ap (λ n. c.args.at + n) c.tile_len.ensures in
    let high : c.args.at + c.tile_len.result ≤ 3 * c.args.layout.now.width * c.args.layout.now.height =
    end-high c.args.layout.now.width c.args.layout.now.height c.args.i c.args.at (c.args.at + c.tile_len.result) c.args.tiles.now c.requires.once c.requires.listed c.requires.at is in
    let few : sample_count c.args.layout.now < 2 ^ 28 = (c.layouts_are_bounded.ensures c.args.layout.now c.requires.well_formed).samples in
    omega arith

pub returns : goal.returns
returns c =
    let is : c.args.at + c.tile_len.result ≡ c.args.at + tile_size (tile_at c.args.tiles.now c.args.i) = ap (λ n. c.args.at + n) c.tile_len.ensures in
    record {
      exact = is;
      next = end-is c.args.i c.args.at (c.args.at + c.tile_len.result) c.args.tiles.now c.requires.listed c.requires.at is;
      high = end-high c.args.layout.now.width c.args.layout.now.height c.args.i c.args.at (c.args.at + c.tile_len.result) c.args.tiles.now c.requires.once c.requires.listed c.requires.at is;
    }

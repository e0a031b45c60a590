use Rattle.std.proofs.Common.{◌≡◌, take}
use Rattle.std.specs.List.{sum_by}
use Rattle.dpx_packing.specs.Tiles.{tile_after_tile, tile_size}
use Rattle.dpx_packing.proofs.tiling.take_tiles.Given as goal

-- the tiles so far are copied
abbrev pub invariant-loop-i : goal.invariant-loop-i
invariant-loop-i l =
    record {
      at : l.at ≡ sum_by tile_size (take l.i l.tiles);
      so_far : take l.at l.buffer ≡ tile_after_tile l.layout.width (take l.i l.tiles) l.samples;
    }

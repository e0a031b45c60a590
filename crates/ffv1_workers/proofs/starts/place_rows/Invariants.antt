use Rattle.std.proofs.Common.{◌≡◌, ◌+◌, ◌*◌, ◌≤◌, length, take}
use Rattle.std.specs.List.{sum_by}
use Rattle.dpx_packing.specs.Tiles.{tile_size}
use Rattle.ffv1_workers.specs.Frames.{StartsBelow, row_tiles}
use Rattle.ffv1_workers.proofs.starts.place_rows.Given as goal

-- the bounds so far stand
abbrev pub invariant-loop-row : goal.invariant-loop-row
invariant-loop-row l =
    record {
      at : l.at ≡ sum_by tile_size (take l.row (row_tiles l.grid));
      small : l.at ≤ l.row * 805306368;
      size : length l.bounds ≡ l.grid.rows + 1;
      so_far : StartsBelow (row_tiles l.grid) l.row l.bounds;
    }

use Rattle.std.proofs.Common.{◌≡◌, ◌+◌, ◌*◌, ◌≤◌, length, take}
use Rattle.std.specs.List.{sum_by}
use Rattle.dpx_packing.specs.Tiles.{tile_size}
use Rattle.ffv1_frame.specs.Parts.{tiles_of}
use Rattle.ffv1_workers.specs.Frames.{StartsBelow}
use Rattle.ffv1_workers.proofs.starts.place_tiles.Given as goal

-- the bounds so far stand
abbrev pub invariant-loop-i : goal.invariant-loop-i
invariant-loop-i l =
    record {
      at : l.at ≡ sum_by tile_size (take l.i (tiles_of l.grid l.parts));
      small : l.at ≤ l.i * 805306368;
      size : length l.bounds ≡ length l.parts + 1;
      so_far : StartsBelow (tiles_of l.grid l.parts) l.i l.bounds;
    }

use Rattle.std.proofs.Common.{◌≡◌, ◌*◌, take}
use Rattle.dpx_packing.specs.Tiles.{lines_joined, tile_line}
use Rattle.dpx_packing.specs.Moves.{KeepsOthers}
use Rattle.dpx_packing.proofs.tiling.put_tile.Given as goal

-- the lines so far are copied, and nothing else is
abbrev pub invariant-loop-row : goal.invariant-loop-row
invariant-loop-row l =
    record {
      put : lines_joined (tile_line l.layout.width l.samples l.tile) l.row ≡ take (l.row * l.wide) l.part;
      kept : KeepsOthers l.layout.width l.tile l.fn.samples l.samples;
    }

use Rattle.std.proofs.Common.{◌≡◌, ◌*◌, take}
use Rattle.dpx_packing.specs.Tiles.{lines_joined, tile_line}
use Rattle.dpx_packing.proofs.tiling.take_tile.Given as goal

-- the lines so far are copied
abbrev pub invariant-loop-row : goal.invariant-loop-row
invariant-loop-row l =
    take (l.row * l.wide) l.part ≡ lines_joined (tile_line l.layout.width l.samples l.tile) l.row

use Rattle.std.proofs.Common.{◌≡◌, ◌≤◌, drop}
use Rattle.dpx_packing.specs.Tiles.{are_lines}
use Rattle.dpx_packing.proofs.tiling.are_whole_lines.Given as goal

-- all depends on the tiles that are left
abbrev pub invariant-loop-i : goal.invariant-loop-i
invariant-loop-i l =
    record {
      rest : are_lines l.layout.width l.layout.height 0 l.tiles ≡ are_lines l.layout.width l.layout.height l.next (drop l.i l.tiles);
      low : l.next ≤ l.layout.height;
    }

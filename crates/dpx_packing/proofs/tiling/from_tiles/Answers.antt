use Rattle.std.proofs.Common.{ap, length, sym, ◌∙◌}
use Rattle.dpx_packing.proofs.TileWhole.{lines-stand}
use Rattle.dpx_packing.proofs.tiling.from_tiles.Goals as goal

pub returns-then-are_whole_lines : goal.returns-then-are_whole_lines
returns-then-are_whole_lines c =
    lines-stand c.args.layout.now.width c.args.layout.now.height c.args.tiles.now c.copy_from_slice.new.self
    (sym c.are_whole_lines.ensures ∙ c.if-are_whole_lines.true)
    (ap length c.copy_from_slice.ensures.after ∙ c.requires.buffer_len)
    ∙ c.copy_from_slice.ensures.after

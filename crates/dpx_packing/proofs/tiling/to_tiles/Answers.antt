use Rattle.std.proofs.Common.{sym, ◌∙◌}
use Rattle.dpx_packing.proofs.TileWhole.{lines-stand}
use Rattle.dpx_packing.proofs.tiling.to_tiles.Goals as goal

pub returns-then-are_whole_lines : goal.returns-then-are_whole_lines
returns-then-are_whole_lines c =
    c.copy_from_slice.ensures.after
    ∙ sym (lines-stand c.args.layout.now.width c.args.layout.now.height c.args.tiles.now c.args.samples.now (sym c.are_whole_lines.ensures ∙ c.if-are_whole_lines.true) c.requires.sample_len)

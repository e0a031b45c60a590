use Rattle.std.proofs.Common.{◌≡◌, true, refl, sym, ◌∙◌}
use Rattle.dpx_packing.specs.Tiles.{has_lines, tile_at}
use Rattle.dpx_packing.proofs.TileWhole.{lines-step, lines-stop, lines-end, next-low}
use Rattle.dpx_packing.proofs.tiling.are_whole_lines.Goals as goal

pub loop-i-preserved : goal.loop-i-preserved
loop-i-preserved c =
    let holds : has_lines c.args.layout.now.width c.loop-i.next (tile_at c.args.tiles.now c.loop-i.i) ≡ true =
    sym c.has_whole_lines.ensures ∙ c.if-not-has_whole_lines.false in
    record {
      rest = c.loop-i.invariant.rest ∙ lines-step _ _ _ _ _ c.loop-i-test.true holds;
      low = next-low c.args.layout.now.width c.args.layout.now.height c.loop-i.next c.loop-i.i c.args.tiles.now c.requires.inside c.loop-i-test.true holds;
    }

pub returns-then-not-has_whole_lines : goal.returns-then-not-has_whole_lines
returns-then-not-has_whole_lines c =
    sym (c.loop-i.invariant.rest ∙ lines-stop c.args.layout.now.width c.args.layout.now.height c.loop-i.next c.loop-i.i c.args.tiles.now c.loop-i-test.true (sym c.has_whole_lines.ensures ∙ c.if-not-has_whole_lines.true))

pub returns : goal.returns
returns c =
    lines-end c.args.layout.now.width c.args.layout.now.height c.loop-i.next c.loop-i.i c.args.tiles.now _ c.loop-i-test.false refl ∙ sym c.loop-i.invariant.rest

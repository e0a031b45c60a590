use Rattle.std.proofs.Common.{◌*◌, rules, arith, refl}
use Rattle.dpx_packing.specs.Tiles.{tile_line, tile_samples}
use Rattle.dpx_packing.proofs.TileLines.{copied-none, copied, all-copied}
use Rattle.dpx_packing.proofs.tiling.take_tile.Goals as goal

pub loop-row-init : goal.loop-row-init
loop-row-init c = copied-none _ _ _

pub loop-row-preserved : goal.loop-row-preserved
loop-row-preserved c =
    copied (tile_line c.args.layout.now.width c.args.samples.now c.args.tile.now) _ _ _ _ _ _ _
    c.loop-row.invariant (search rules) (omega arith) c.copy_from_slice.ensures.after c.line_start-from.ensures.exact refl

pub returns : goal.returns
unfolding tile_samples
returns c =
    all-copied (tile_line c.args.layout.now.width c.args.samples.now c.args.tile.now) (3 * c.args.tile.now.width) c.loop-row.row c.args.tile.now.height _
    c.loop-row.invariant (omega arith) (omega arith) (omega arith)

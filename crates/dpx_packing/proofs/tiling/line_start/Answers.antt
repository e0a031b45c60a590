use Rattle.dpx_packing.proofs.TilePlaces.{line-high}
use Rattle.dpx_packing.proofs.tiling.line_start.Goals as goal

pub returns-clause-high : goal.returns-clause-high
returns-clause-high c =
    line-high c.args.layout.now.width c.args.layout.now.height c.args.tile.now.x c.args.tile.now.y c.args.tile.now.width c.args.tile.now.height c.args.row c.requires.inside.across_high c.requires.inside.down_high c.requires.row

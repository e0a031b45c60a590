use Rattle.ffv1_workers.proofs.Sizes.{part-size}
use Rattle.ffv1_workers.proofs.decoding.DecodeTaskTileTask.run.Goals as goal

pub decode-requires-clause-tile : goal.decode-requires-clause-tile
decode-requires-clause-tile c =
    part-size c.args.self.now.grid.now c.args.self.now.parts.now c.args.number _ _ c.tile-size.result _ c.requires.takes.listed c.requires.takes.size c.tile-size.ensures.exact

use Rattle.slice_pool.proofs.Halves.{cut-is}
use Rattle.slice_pool.proofs.pool.cut_at.Goals as goal

pub returns-clause-cut : goal.returns-clause-cut
returns-clause-cut c =
    cut-is c.args.bounds.now c.args.workers c.args.share c.args.shares c.args.low c.args.first c.args.count _
    c.requires.sound c.requires.shares c.requires.inside c.requires.low c.first_tile.ensures.exact

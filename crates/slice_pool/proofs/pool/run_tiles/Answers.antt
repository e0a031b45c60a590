use Rattle.slice_pool.proofs.Whole.{whole-shares, whole-taken, whole-done}
use Rattle.slice_pool.proofs.pool.run_tiles.Goals as goal

pub run_shares-requires-clause-shares : goal.run_shares-requires-clause-shares
run_shares-requires-clause-shares g c κs within = whole-shares _ _ _ _ c.requires.bounds c.requires.some

pub run_shares-requires-clause-taken : goal.run_shares-requires-clause-taken
run_shares-requires-clause-taken g c κs within = whole-taken (g.T.TileTask.Takes c.args.task.now) _ _ _ c.requires.bounds c.requires.taken

pub returns-clause-done : goal.returns-clause-done
returns-clause-done g c = whole-done (g.T.TileTask.Does c.args.task.now) _ _ _ _ _ _ c.requires.bounds c.run_shares.ensures.done

use Rattle.slice_pool.proofs.pool.place_behind.Goals as goal

pub overflow_sub-result : goal.overflow_sub-result
overflow_sub-result c = c.requires.ascending c.args.first c.args.k c.requires.order c.requires.inside

use Rattle.std.proofs.Common.{◌≡◌, ◌-◌, length, rules, arith}
use Rattle.slice_pool.proofs.Runs.{IsNext, below-none, next-is, takes-now, below-more, below-all}
use Rattle.slice_pool.proofs.pool.run_in_turn.Goals as goal

pub loop-i-init : goal.loop-i-init
loop-i-init g c = record { done = below-none (g.T.TileTask.Does c.args.work.now.task.now) _ _ _ _; fits = c.requires.fits }

pub run-requires : goal.run-requires
run-requires g c =
    let is : IsNext c.args.work.now.bounds.now c.args.first c.loop-i.i c.place_behind-from.result c.place_behind-to.result c.loop-i.part =
    next-is _ _ (length c.args.answers.now) _ _ _ c.args.part.now _ c.requires.sound.ascending c.requires.taken.is c.loop-i-test.true c.loop-i.auto.part c.place_behind-from.ensures c.place_behind-to.ensures in
    record {
      takes = takes-now (g.T.TileTask.Takes c.args.work.now.task.now) _ _ _ _ _ _ _ _ c.requires.taken c.loop-i-test.true is c.loop-i.invariant.done.rest;
      fits = c.loop-i.invariant.fits;
    }

pub loop-i-preserved : goal.loop-i-preserved
loop-i-preserved g c =
    let is : IsNext c.args.work.now.bounds.now c.args.first c.loop-i.i c.place_behind-from.result c.place_behind-to.result c.loop-i.part =
    next-is _ _ (length c.args.answers.now) _ _ _ c.args.part.now _ c.requires.sound.ascending c.requires.taken.is c.loop-i-test.true c.loop-i.auto.part c.place_behind-from.ensures c.place_behind-to.ensures in
    let inside = c.requires.taken.is.inside in
    let long : length c.run.new.tile ≡ c.place_behind-to.result - c.place_behind-from.result = search rules in
    record {
      done = below-more (g.T.TileTask.Does c.args.work.now.task.now) _ _ _ _ _ _ _ _ _ _ c.requires.sound.ascending (omega arith) is c.loop-i.invariant.done (omega arith) c.run.ensures.does long;
      fits = c.run.ensures.fits;
    }

pub returns : goal.returns
returns g c = record {
  done = below-all (g.T.TileTask.Does c.args.work.now.task.now) _ _ _ _ _ _ c.loop-i.invariant.done (omega arith);
  fits = c.loop-i.invariant.fits;
}

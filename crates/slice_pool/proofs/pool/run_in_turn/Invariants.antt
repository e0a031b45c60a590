use Rattle.slice_pool.specs.Parts.{DoneBelow}
use Rattle.slice_pool.proofs.pool.run_in_turn.Given as goal

-- the tiles so far are done
abbrev pub invariant-loop-i : goal.invariant-loop-i
invariant-loop-i g l =
    record {
      done : DoneBelow (g.T.TileTask.Does l.work.task.now) l.work.bounds.now l.first l.i l.fn.part l.part l.answers;
      fits : g.T.TileTask.Fits l.work.task.now l.scratch;
    }

use Rattle.range_coder.specs.Table.{AreLive}
use Rattle.ffv1_params.specs.Walk.{reader_at}
use Rattle.ffv1_params.proofs.RunReadLaws.{RunsRead}
use Rattle.ffv1_params.proofs.runs.runs_of.Given as goal

abbrev pub invariant-loop-left : goal.invariant-loop-left
invariant-loop-left l = RunsRead (reader_at l.fn.decoder l.initial.states) (reader_at l.decoder l.states) l.runs.items l.left × AreLive l.table l.states

abbrev pub decreases-loop-left : goal.decreases-loop-left
decreases-loop-left l = l.left

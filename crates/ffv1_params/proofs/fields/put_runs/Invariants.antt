use Rattle.std.proofs.Common.{take}
use Rattle.ffv1_params.proofs.RunLaws.{RunsPut}
use Rattle.ffv1_params.proofs.fields.put_runs.Given as goal

abbrev pub invariant-loop-run : goal.invariant-loop-run
invariant-loop-run l = RunsPut l.table l.states l.fn.encoder.interval l.encoder.interval (take l.run-index l.runs)

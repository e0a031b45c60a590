use Rattle.std.proofs.Common.{◌≡◌, true}
use Rattle.std.specs.List.{list_all}
use Rattle.dpx_packing.specs.PadForms.{is_run, runs_at}
use Rattle.dpx_packing.proofs.pad_end.are_runs.Given as goal

abbrev pub invariant-loop-i : goal.invariant-loop-i
invariant-loop-i l = list_all is_run (runs_at l.i l.runs) ≡ true

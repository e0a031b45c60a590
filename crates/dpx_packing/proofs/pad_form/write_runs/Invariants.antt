use Rattle.std.proofs.Common.{◌≡◌, ◌≤◌, ◌++◌, length}
use Rattle.std.specs.List.{flat_map}
use Rattle.dpx_packing.specs.PadForms.{run_bytes, runs_form, runs_of}
use Rattle.dpx_packing.proofs.pad_form.write_runs.Given as goal

abbrev pub invariant-loop-rest : goal.invariant-loop-rest
invariant-loop-rest l = record { within : length l.rest ≤ length l.pads; spelled : l.form.items ++ flat_map run_bytes (runs_of l.rest) ≡ runs_form (runs_of l.pads) }

abbrev pub decreases-loop-rest : goal.decreases-loop-rest
decreases-loop-rest l = length l.rest

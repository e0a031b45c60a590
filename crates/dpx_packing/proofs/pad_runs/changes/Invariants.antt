use Rattle.std.proofs.Common.{◌≡◌, ◌+◌, ◌-◌, ◌≤◌, length, take}
use Rattle.dpx_packing.specs.PadForms.{runs_of}
use Rattle.dpx_packing.proofs.pad_runs.changes.Given as goal

abbrev pub invariant-loop-i : goal.invariant-loop-i
invariant-loop-i l = record { exact : length (runs_of (take l.i l.pads)) ≡ length (runs_of (take l.from l.pads)) + l.count; most : l.count ≤ l.i - l.from }

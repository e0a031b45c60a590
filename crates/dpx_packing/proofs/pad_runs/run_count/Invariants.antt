use Rattle.std.proofs.Common.{◌≡◌, ◌-◌, ◌≤◌, length, take}
use Rattle.dpx_packing.specs.PadForms.{runs_of}
use Rattle.dpx_packing.proofs.pad_runs.run_count.Given as goal

abbrev pub invariant-loop-at : goal.invariant-loop-at
invariant-loop-at l = record { low : 1 ≤ l.at; within : l.at ≤ length l.pads; exact : l.count ≡ length (runs_of (take l.at l.pads)); high : l.count ≤ l.at }

abbrev pub decreases-loop-at : goal.decreases-loop-at
decreases-loop-at l = length l.pads - l.at

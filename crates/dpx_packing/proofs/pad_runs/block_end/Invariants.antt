use Rattle.std.proofs.Common.{◌≡◌, ◌-◌, ◌≤◌, length, take}
use Rattle.std.specs.Prelude.{replicate}
use Rattle.dpx_packing.proofs.pad_runs.block_end.Given as goal

abbrev pub invariant-loop-end : goal.invariant-loop-end
invariant-loop-end l = record { low : l.from ≤ l.end; high : l.end ≤ length l.pads; same : take l.end l.pads ≡ replicate l.end l.value }

abbrev pub decreases-loop-end : goal.decreases-loop-end
decreases-loop-end l = length l.pads - l.end

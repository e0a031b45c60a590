use Rattle.std.proofs.Common.{◌≡◌, IsTrue, take}
use Rattle.std.specs.Prelude.{replicate}
use Rattle.dpx_packing.proofs.pad_runs.goes_on.Given as goal

abbrev pub invariant-loop-i : goal.invariant-loop-i
invariant-loop-i l = IsTrue l.same → take l.i l.pads ≡ replicate l.i l.value

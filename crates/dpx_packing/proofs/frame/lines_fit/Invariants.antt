use Rattle.std.proofs.Common.{ℕ, ◌*◌, ◌<◌, take, drop}
use Rattle.dpx_packing.specs.Units.{AreBelow}
use Rattle.dpx_packing.proofs.frame.lines_fit.Given as goal

-- the lines so far fit
abbrev pub invariant-loop-y : goal.invariant-loop-y
invariant-loop-y l = (y : ℕ) → y < l.y → AreBelow l.limit (take l.units (drop (y * l.line) l.pads))

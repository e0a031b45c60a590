use Rattle.std.proofs.Common.{◌↔◌, take, IsTrue}
use Rattle.dpx_packing.specs.Units.{AreBelow}
use Rattle.dpx_packing.proofs.frame.are_below.Given as goal

-- the pads so far
abbrev pub invariant-loop-pad : goal.invariant-loop-pad
invariant-loop-pad l = IsTrue l.below ↔ AreBelow l.limit (take l.pad-index l.pads)

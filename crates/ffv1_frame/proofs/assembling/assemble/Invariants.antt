use Rattle.std.proofs.Common.{◌≡◌, take}
use Rattle.ffv1_frame.specs.Footers.{frame_of_slices}
use Rattle.ffv1_frame.proofs.assembling.assemble.Given as goal

-- the slices so far are appended
abbrev pub invariant-loop-slice : goal.invariant-loop-slice
invariant-loop-slice l = l.frame.items ≡ frame_of_slices (take l.slice-index l.slices)

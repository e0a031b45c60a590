use Rattle.std.proofs.Common.{◌≡◌, take}
use Rattle.ffv1_frame.specs.Parts.{tiles_of}
use Rattle.conformance.proofs.frames.tiles.Given as goal

abbrev pub invariant-loop-place : goal.invariant-loop-place
invariant-loop-place l = l.tiles.items ≡ tiles_of l.grid (take l.place l.parts)

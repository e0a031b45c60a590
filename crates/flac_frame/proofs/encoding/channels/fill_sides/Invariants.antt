use Rattle.std.proofs.Common.{◌≡◌, ◌++◌, take, drop}
use Rattle.flac_frame.specs.Writing.{pairwise, side_of}
use Rattle.flac_frame.proofs.encoding.channels.fill_sides.Given as goal

abbrev pub invariant-loop-place : goal.invariant-loop-place
invariant-loop-place l =
    take l.place l.out ++ pairwise side_of (drop l.place l.left) (drop l.place l.right) ≡ pairwise side_of l.left l.right

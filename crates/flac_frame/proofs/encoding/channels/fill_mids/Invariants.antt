use Rattle.std.proofs.Common.{◌≡◌, ◌++◌, take, drop}
use Rattle.flac_frame.specs.Writing.{pairwise, mid_of}
use Rattle.flac_frame.proofs.encoding.channels.fill_mids.Given as goal

abbrev pub invariant-loop-place : goal.invariant-loop-place
invariant-loop-place l =
    take l.place l.out ++ pairwise mid_of (drop l.place l.left) (drop l.place l.right) ≡ pairwise mid_of l.left l.right

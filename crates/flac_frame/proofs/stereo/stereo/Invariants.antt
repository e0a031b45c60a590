use Rattle.std.proofs.Common.{◌≡◌, take, drop}
use Rattle.flac_frame.specs.Frame.{with_pair, stereo_of}
use Rattle.flac_frame.proofs.stereo.stereo.Given as goal

abbrev pub invariant-loop-place : goal.invariant-loop-place
invariant-loop-place l = record {
  read : with_pair (take l.place l.first) (take l.place l.second) (stereo_of l.code l.bits (drop l.place l.fn.first) (drop l.place l.fn.second)) ≡ stereo_of l.code l.bits l.fn.first l.fn.second;
  first : drop l.place l.first ≡ drop l.place l.fn.first;
  second : drop l.place l.second ≡ drop l.place l.fn.second;
}

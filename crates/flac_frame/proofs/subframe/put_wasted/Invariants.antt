use Rattle.std.proofs.Common.{◌≡◌, take, drop}
use Rattle.flac_frame.specs.Subframe.{with_wasted}
use Rattle.flac_frame.proofs.subframe.put_wasted.Given as goal

abbrev pub invariant-loop-place : goal.invariant-loop-place
invariant-loop-place l = record {
  done : take l.place l.samples ≡ with_wasted l.wasted (take l.place l.fn.samples);
  rest : drop l.place l.samples ≡ drop l.place l.fn.samples;
}

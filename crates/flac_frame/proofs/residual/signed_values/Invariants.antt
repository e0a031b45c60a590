use Rattle.std.proofs.Common.{◌≡◌, ℕ, ◌-◌, ◌<◌, pos, length, take, get_or}
use Rattle.flac_predict.specs.Samples.{IsInside}
use Rattle.flac_frame.specs.Reading.{each_at, signed_at}
use Rattle.flac_frame.proofs.EachLaws.{with_front}
use Rattle.flac_frame.proofs.residual.signed_values.Given as goal

abbrev pub invariant-loop-place : goal.invariant-loop-place
invariant-loop-place l = record {
  read : with_front (take l.place l.out) (each_at (signed_at l.count) (length l.fn.out - l.place) l.reader) ≡ each_at (signed_at l.count) (length l.fn.out) l.fn.reader;
  inside : (k : ℕ) → k < l.place → IsInside l.count (get_or l.out k (pos 0));
}

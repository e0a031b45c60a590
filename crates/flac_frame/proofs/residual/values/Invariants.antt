use Rattle.std.proofs.Common.{◌≡◌, ◌-◌, length, take}
use Rattle.flac_frame.specs.Reading.{each_at}
use Rattle.flac_frame.specs.Residual.{value_at}
use Rattle.flac_frame.proofs.EachLaws.{with_front}
use Rattle.flac_frame.proofs.residual.values.Given as goal

abbrev pub invariant-loop-place : goal.invariant-loop-place
invariant-loop-place l =
    with_front (take l.place l.out) (each_at (value_at l.parameter) (length l.fn.out - l.place) l.reader) ≡ each_at (value_at l.parameter) (length l.fn.out) l.fn.reader

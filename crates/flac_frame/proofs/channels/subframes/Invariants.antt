use Rattle.std.proofs.Common.{◌≡◌, ◌-◌}
use Rattle.flac_frame.specs.Samples.{stretches}
use Rattle.flac_frame.specs.Frame.{subframes_at}
use Rattle.flac_frame.proofs.FrameLaws.{with_rows}
use Rattle.flac_frame.proofs.channels.subframes.Given as goal

abbrev pub invariant-loop-k : goal.invariant-loop-k
invariant-loop-k l =
    with_rows (stretches l.room l.size l.samples l.k) (subframes_at l.code l.bits l.size l.k (l.count - l.k) l.reader) ≡ subframes_at l.code l.bits l.size 0 l.count l.fn.reader

use Rattle.std.proofs.Common.{◌≡◌, ◌-◌}
use Rattle.flac_frame.specs.Header.{later_at}
use Rattle.flac_frame.proofs.header.later_bytes.Given as goal

abbrev pub invariant-loop : goal.invariant-loop
invariant-loop l = later_at (l.count - l.counter) l.reader ≡ later_at l.count l.fn.reader

use Rattle.std.proofs.Common.{◌≡◌, ◌-◌, ◌++◌}
use Rattle.flac_frame.specs.Writing.{later_bits}
use Rattle.flac_frame.proofs.encoding.header.put_later.Given as goal

abbrev pub invariant-loop-done : goal.invariant-loop-done
invariant-loop-done l = l.writer ++ later_bits (l.count - l.done) l.number ≡ l.fn.writer ++ later_bits l.count l.number

use Rattle.std.proofs.Common.{◌≡◌, ◌*◌, ◌++◌, replicate, false}
use Rattle.flac_frame.proofs.encoding.fields.put_unary.Given as goal

abbrev pub invariant-loop : goal.invariant-loop
invariant-loop l = l.writer ≡ l.fn.writer ++ replicate (32 * l.counter) false

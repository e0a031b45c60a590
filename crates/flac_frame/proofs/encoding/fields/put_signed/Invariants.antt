use Rattle.std.proofs.Common.{◌≡◌, ◌++◌, take}
use Rattle.flac_frame.specs.Spelling.{signed_bits}
use Rattle.flac_frame.proofs.encoding.fields.put_signed.Given as goal

abbrev pub invariant-loop-place : goal.invariant-loop-place
invariant-loop-place l = l.writer ≡ l.fn.writer ++ signed_bits l.count (take l.place l.values)

use Rattle.std.proofs.Common.{◌≡◌, ◌++◌, ◌<◌, ◌^◌, take}
use Rattle.cook_bits.specs.Bits.{low_bits}
use Rattle.flac_frame.specs.Spelling.{values_bits}
use Rattle.flac_frame.proofs.encoding.fields.put_values.Given as goal

abbrev pub invariant-loop-place : goal.invariant-loop-place
invariant-loop-place l = record {
  bits : l.writer ++ low_bits l.tail.count l.tail.number ≡ l.fn.writer ++ values_bits l.parameter (take l.place l.values);
  short : l.tail.count < 32;
  tail : l.tail.number < 2 ^ l.tail.count;
}

use Rattle.std.proofs.Common.{◌≡◌, drop}
use Rattle.cook_bits.specs.declared.names.Seen.TheVariants.{Nothing}
use Rattle.cook_bits.specs.Segments.{are_plain}
use Rattle.cook_bits.proofs.names.are_plain_segments.Given as goal

abbrev pub invariant-loop-byte : goal.invariant-loop-byte
invariant-loop-byte l = are_plain l.seen (drop l.byte-index l.bytes) ≡ are_plain Nothing l.bytes

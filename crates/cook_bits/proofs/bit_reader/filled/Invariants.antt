use Rattle.std.proofs.Common.{◌≡◌, ◌+◌, ◌*◌, ◌++◌, drop}
use Rattle.cook_bits.specs.Bits.{low_bits, bits_of}
use Rattle.cook_bits.proofs.bit_reader.filled.Given as goal

abbrev pub invariant-loop-byte : goal.invariant-loop-byte
invariant-loop-byte l =
    (l.held ≡ l.fn.held + 8 * l.byte-index)
    × (low_bits l.held l.word ++ bits_of (drop l.byte-index l.next) ≡ low_bits l.fn.held l.fn.word ++ bits_of l.next)

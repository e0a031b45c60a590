use Rattle.std.proofs.Common.{◌+◌, ◌*◌, ◌<◌, ◌≡◌, ◌++◌, [], length}
use Rattle.cook_bits.specs.Bits.{low_bits, bits_of}
use Rattle.cook_bits.proofs.UnaryLaws.{Passed}
use Rattle.cook_bits.proofs.bit_reader.unary.behind_one.Given as goal

abbrev pub invariant-loop-ahead : goal.invariant-loop-ahead
invariant-loop-ahead l =
    (l.ahead.held < 64)
    × (l.ahead.held < 32 → l.ahead.rest.now ≡ [])
    × Passed l.zeros (low_bits l.fn.held l.fn.word ++ bits_of l.fn.rest) (low_bits l.ahead.held l.ahead.word ++ bits_of l.ahead.rest.now)

abbrev pub decreases-loop-ahead : goal.decreases-loop-ahead
decreases-loop-ahead l = l.ahead.held + 8 * length l.ahead.rest.now

use Rattle.std.proofs.Common.{refl}
use Rattle.cook_bits.specs.Bits.{low_bits, bits_of}
use Rattle.cook_bits.proofs.bit_writer.BitWriter.new.Goals as goal

pub returns : goal.returns
unfolding low_bits bits_of
returns c = rw c.new.ensures.items refl

use Rattle.std.proofs.Common.{refl}
use Rattle.cook_bits.specs.Bits.{low_bits}
use Rattle.cook_bits.proofs.bit_reader.BitReader.new.Goals as goal

pub returns : goal.returns
unfolding low_bits
returns c = refl

use Rattle.cook_bits.proofs.Fields.{bits_of-bytes_of, bytes_of-bits_of}
use Rattle.cook_bits.proofs.laws.bits_and_bytes_tell_each_other.Goals as goal

pub returns-clause-bits : goal.returns-clause-bits
returns-clause-bits c = bits_of-bytes_of

pub returns-clause-bytes : goal.returns-clause-bytes
returns-clause-bytes c = bytes_of-bits_of

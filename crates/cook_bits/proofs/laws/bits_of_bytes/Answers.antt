use Rattle.cook_bits.proofs.Fields.{bits_of-append, bits_of-bytes_high_first, length-bits_of}
use Rattle.cook_bits.proofs.laws.bits_of_bytes.Goals as goal

pub returns-clause-follow : goal.returns-clause-follow
returns-clause-follow c = bits_of-append

pub returns-clause-eight : goal.returns-clause-eight
returns-clause-eight c = length-bits_of

pub returns-clause-numbers : goal.returns-clause-numbers
returns-clause-numbers c = bits_of-bytes_high_first

use Rattle.cook_bits.proofs.CrcLaws.{ebml_fits, eight_fits, high_fits, sixteen_fits}
use Rattle.cook_bits.proofs.laws.checksums_fit.Goals as goal

pub returns-clause-high : goal.returns-clause-high
returns-clause-high c = high_fits

pub returns-clause-ebml : goal.returns-clause-ebml
returns-clause-ebml c = ebml_fits

pub returns-clause-eight : goal.returns-clause-eight
returns-clause-eight c = eight_fits

pub returns-clause-sixteen : goal.returns-clause-sixteen
returns-clause-sixteen c = sixteen_fits

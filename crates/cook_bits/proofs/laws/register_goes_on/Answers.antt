use Rattle.cook_bits.proofs.CrcLaws.{goes_on, stays, register_fits, any_cut}
use Rattle.cook_bits.proofs.laws.register_goes_on.Goals as goal

pub returns-clause-parts : goal.returns-clause-parts
returns-clause-parts c = goes_on

pub returns-clause-nothing : goal.returns-clause-nothing
returns-clause-nothing c = stays

pub returns-clause-fits : goal.returns-clause-fits
returns-clause-fits c = register_fits

pub returns-clause-cut : goal.returns-clause-cut
returns-clause-cut c = any_cut

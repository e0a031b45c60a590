use Rattle.dpx_header.proofs.Kept.{well_formed, in_file}
use Rattle.dpx_header.proofs.laws.layouts_fit.Goals as goal

pub returns-clause-formed : goal.returns-clause-formed
returns-clause-formed c = well_formed

pub returns-clause-in_file : goal.returns-clause-in_file
returns-clause-in_file c = in_file

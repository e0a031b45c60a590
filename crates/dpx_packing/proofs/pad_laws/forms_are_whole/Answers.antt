use Rattle.dpx_packing.proofs.PadEnds.{zeros_whole, runs_whole, values_whole, written_whole, filled_whole}
use Rattle.dpx_packing.proofs.pad_laws.forms_are_whole.Goals as goal

pub returns-clause-spelled : goal.returns-clause-spelled
returns-clause-spelled c = record { zeros = zeros_whole; runs = runs_whole; values = values_whole }

pub returns-clause-written : goal.returns-clause-written
returns-clause-written c = written_whole

pub returns-clause-filled : goal.returns-clause-filled
returns-clause-filled c = filled_whole

use Rattle.dpx_packing.proofs.PadRound.{zeros_are_read, runs_are_read, values_form-read}
use Rattle.dpx_packing.proofs.pad_laws.each_form_is_read.Goals as goal

pub returns-clause-zeros : goal.returns-clause-zeros
returns-clause-zeros c = zeros_are_read

pub returns-clause-runs : goal.returns-clause-runs
returns-clause-runs c = runs_are_read

pub returns-clause-values : goal.returns-clause-values
returns-clause-values c = values_form-read

use Rattle.dpx_packing.specs.FormEnds.{form_ends, form_cut}
use Rattle.dpx_packing.proofs.pad_laws.forms_tell_their_ends.Goals as goal

pub returns-clause-ends : goal.returns-clause-ends
returns-clause-ends c = form_ends

pub returns-clause-cut : goal.returns-clause-cut
returns-clause-cut c = form_cut

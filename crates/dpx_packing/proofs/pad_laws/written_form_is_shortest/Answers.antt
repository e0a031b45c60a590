use Rattle.dpx_packing.proofs.PadShortest.{written_is_shortest}
use Rattle.dpx_packing.proofs.pad_laws.written_form_is_shortest.Goals as goal

pub returns : goal.returns
returns c = written_is_shortest

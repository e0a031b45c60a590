use Rattle.dpx_packing.proofs.PadRound.{written_is_read}
use Rattle.dpx_packing.proofs.pad_laws.written_pads_are_read.Goals as goal

pub returns : goal.returns
returns c = written_is_read

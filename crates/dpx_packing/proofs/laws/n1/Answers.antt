use Rattle.dpx_packing.proofs.Files.{frames-are-their-parts}
use Rattle.dpx_packing.proofs.laws.n1.Goals as goal

pub returns : goal.returns
returns c = frames-are-their-parts c.first_bytes_decide.ensures.taken c.layouts_fit.ensures.formed c.layouts_fit.ensures.in_file c.layouts_are_bounded.ensures c.written_pads_are_read.ensures

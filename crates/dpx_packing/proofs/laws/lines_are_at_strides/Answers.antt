use Rattle.dpx_packing.proofs.FrameRounds.{line-at}
use Rattle.dpx_packing.proofs.laws.lines_are_at_strides.Goals as goal

pub returns : goal.returns
returns c = line-at c.layouts_are_bounded.ensures

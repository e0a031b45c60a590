use Rattle.dpx_packing.proofs.FrameRounds.{takes-apart}
use Rattle.dpx_packing.proofs.laws.images_come_apart.Goals as goal

pub returns : goal.returns
returns c = takes-apart c.layouts_are_bounded.ensures

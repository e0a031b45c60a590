use Rattle.dpx_packing.proofs.FrameRounds.{puts-together}
use Rattle.dpx_packing.proofs.laws.images_come_together.Goals as goal

pub returns : goal.returns
returns c = puts-together c.layouts_are_bounded.ensures

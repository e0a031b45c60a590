use Rattle.dpx_header.proofs.Bounds.{bounds}
use Rattle.dpx_header.proofs.laws.layouts_are_bounded.Goals as goal

pub returns : goal.returns
returns c = bounds

use Rattle.ffv1_frame.proofs.FooterLaws.{cut-again}
use Rattle.ffv1_frame.proofs.laws.frames_are_cut.Goals as goal

pub returns : goal.returns
returns c slices are some few = cut-again c.parity_leaves_zero.ensures.parity slices are some few

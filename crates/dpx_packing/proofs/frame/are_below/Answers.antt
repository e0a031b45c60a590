use Rattle.std.proofs.Common.{arith}
use Rattle.dpx_packing.proofs.BelowTests.{below-more, below-all}
use Rattle.dpx_packing.proofs.frame.are_below.Goals as goal

pub loop-pad-preserved : goal.loop-pad-preserved
loop-pad-preserved c = below-more _ _ _ _ (omega arith) c.loop-pad.invariant

pub returns : goal.returns
returns c = below-all _ c.loop-pad.pad-index _ _ (omega arith) c.loop-pad.invariant

use Rattle.std.proofs.Common.{rules}
use Rattle.dpx_packing.proofs.Rows.{pairs-grown, pairs-none}
use Rattle.dpx_packing.proofs.blocks.join_blocks.Goals as goal

pub loop-i-init : goal.loop-i-init
loop-i-init g c = pairs-none _ _ _ _ _ _ _

pub loop-i-preserved : goal.loop-i-preserved
loop-i-preserved g c =
    pairs-grown _ _ _ _ _ _ _ _ _ c.loop-i.invariant (search rules) (search rules) c.join.ensures

use Rattle.std.proofs.Common.{rules}
use Rattle.dpx_packing.proofs.Rows.{blocks-grown, blocks-none}
use Rattle.dpx_packing.proofs.blocks.split_blocks.Goals as goal

pub loop-i-init : goal.loop-i-init
loop-i-init g c =
    record { samples = blocks-none _ _ _ _ _; pads = blocks-none _ _ _ _ _ }

pub loop-i-preserved : goal.loop-i-preserved
loop-i-preserved g c =
    record {
      samples = blocks-grown _ _ _ _ _ _ _ c.loop-i.invariant.samples (search rules) (search rules) c.split.ensures.samples;
      pads = blocks-grown _ _ _ _ _ _ _ c.loop-i.invariant.pads (search rules) (search rules) c.split.ensures.pads;
    }

use Rattle.std.proofs.Common.{◌≡◌, ◌*◌, take}
use Rattle.dpx_packing.specs.Blocks.{of_blocks}
use Rattle.dpx_packing.proofs.blocks.split_blocks.Given as goal

-- the blocks so far are taken apart
abbrev pub invariant-loop-i : goal.invariant-loop-i
invariant-loop-i g l =
    record {
      samples : take (l.i * l.sizes.samples) l.samples ≡ of_blocks (g.B.Block.form l.block).samples_of l.sizes.bytes l.i l.bytes;
      pads : take (l.i * l.sizes.pads) l.pads ≡ of_blocks (g.B.Block.form l.block).pads_of l.sizes.bytes l.i l.bytes;
    }

use Rattle.std.proofs.Common.{◌≡◌, ◌*◌, take}
use Rattle.dpx_packing.specs.Blocks.{of_pairs}
use Rattle.dpx_packing.proofs.blocks.join_blocks.Given as goal

-- the blocks so far are put together
abbrev pub invariant-loop-i : goal.invariant-loop-i
invariant-loop-i g l =
    take (l.i * l.sizes.bytes) l.bytes
    ≡ of_pairs (g.B.Block.form l.block).bytes_of l.sizes.samples l.sizes.pads l.i l.samples l.pads

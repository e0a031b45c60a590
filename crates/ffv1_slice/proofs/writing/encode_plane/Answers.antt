use Rattle.std.proofs.Common.{arith}
use Rattle.ffv1_slice.proofs.Placing.{line_placed}
use Rattle.ffv1_slice.proofs.writing.encode_plane.Goals as goal

pub put_symbols-requires-clause-placed : goal.put_symbols-requires-clause-placed
put_symbols-requires-clause-placed c =
    line_placed _ _ _ _ _ _ _ _ _ c.requires.half c.requires.slots c.place_line.ensures (omega arith)

use Rattle.std.proofs.Common.{◌≡◌, take, drop}
use Rattle.ffv1_workers.specs.Encoding.{IsFrameOf}
use Rattle.ffv1_workers.proofs.encoded.frame_of.Given as goal

-- the slices so far are in the frame, and the others still among the answers
abbrev pub invariant-loop-number : goal.invariant-loop-number
invariant-loop-number l =
    record {
      so_far : IsFrameOf (take l.number l.fn.answers) l.frame.items;
      rest : drop l.number l.answers ≡ drop l.number l.fn.answers;
    }

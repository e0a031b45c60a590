use Rattle.std.proofs.Common.{ap, ◌+◌, ℕ}
use Rattle.range_coder.proofs.Symbols.{no_ones_put, one_put}
use Rattle.range_coder.proofs.putting.put_ones.Goals as goal

pub loop-k-init : goal.loop-k-init
loop-k-init c = (no_ones_put _ _ _ c.requires.live, c.requires.window)

pub loop-k-preserved : goal.loop-k-preserved
loop-k-preserved c =
    (one_put _ _ _ _ _ _ _ _ _ c.loop-k.invariant.0 (ap (λ (n : ℕ). 1 + n) c.min.ensures) c.in_ok-put_slot.ensures.ok c.put_slot.ensures.live, c.put_slot.ensures.window)

use Rattle.std.proofs.Common.{ℕ, ◌+◌, ◌-◌, ap, arith, refl}
use Rattle.range_coder.proofs.LowBits.{no_bits_put, bit_put, bit_refused, bits_put}
use Rattle.range_coder.proofs.Slots.{on_err}
use Rattle.range_coder.proofs.putting.put_low_bits.Goals as goal

pub loop-place-init : goal.loop-place-init
loop-place-init c = (no_bits_put _ _ _ _ _ c.requires.live, c.requires.window)

pub loop-place-preserved : goal.loop-place-preserved
loop-place-preserved c =
    (bit_put _ _ _ _ _ _ _ _ _ c.loop-place.place (c.loop-place.place - 1) _ _ c.loop-place.invariant.0 (omega arith) (ap (λ (n : ℕ). 22 + n) c.min.ensures) refl c.in_ok-put_slot.ensures.ok c.put_slot.ensures.live, c.put_slot.ensures.window)

pub returns-in_err-put_slot-clause-err : goal.returns-in_err-put_slot-clause-err
returns-in_err-put_slot-clause-err c =
    on_err _ (bit_refused _ _ _ _ _ _ _ _ _ c.loop-place.place (c.loop-place.place - 1) _ _ c.loop-place.invariant.0 (omega arith) (ap (λ (n : ℕ). 22 + n) c.min.ensures) refl c.in_err-put_slot.ensures.err)

pub returns-clause-ok : goal.returns-clause-ok
returns-clause-ok c = bits_put _ _ _ _ _ _ _ c.loop-place.place (omega arith) c.loop-place.invariant.0

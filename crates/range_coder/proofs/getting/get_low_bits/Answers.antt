use Rattle.std.proofs.Common.{ℕ, ◌+◌, ◌-◌, ap, arith}
use Rattle.range_coder.proofs.LowBits.{no_bits_got, bit_got, bits_got, high_fits, value_small, value_is}
use Rattle.range_coder.proofs.getting.get_low_bits.Goals as goal

pub loop-place-init : goal.loop-place-init
loop-place-init c = no_bits_got _ _ _ _ c.requires.live

pub overflow_mul-magnitude : goal.overflow_mul-magnitude
overflow_mul-magnitude c =
    let fits = high_fits _ _ _ _ _ _ _ _ c.loop-place.invariant c.requires.exponent (omega arith) in
    omega (arith, fits)

pub overflow_add-magnitude : goal.overflow_add-magnitude
overflow_add-magnitude c =
    let fits = high_fits _ _ _ _ _ _ _ _ c.loop-place.invariant c.requires.exponent (omega arith) in
    let small = value_small _ _ c.from.ensures in
    omega (arith, fits, small)

pub loop-place-preserved : goal.loop-place-preserved
loop-place-preserved c =
    bit_got _ _ _ _ _ _ _ _ _ c.loop-place.place (c.loop-place.place - 1) _ c.from.result _ c.loop-place.invariant (omega arith) (ap (λ (n : ℕ). 22 + n) c.min.ensures) (value_small _ _ c.from.ensures) (value_is _ _ c.from.ensures) c.get_slot.ensures.gets c.get_slot.ensures.live

pub returns-clause-gets : goal.returns-clause-gets
returns-clause-gets c = bits_got _ _ _ _ _ _ _ c.loop-place.place (omega arith) c.loop-place.invariant

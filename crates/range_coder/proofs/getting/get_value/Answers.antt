use Rattle.std.proofs.Common.{◌≡◌, w32, to_z, of_z, refl}
use Rattle.std.proofs.lemmas.Int.{to_z-of_z}
use Rattle.range_coder.proofs.Slots.{on_err}
use Rattle.range_coder.proofs.Exponents.{codable, magnitude_fits}
use Rattle.range_coder.proofs.Symbols.{zero_got, overlong_got, value_got}
use Rattle.range_coder.proofs.getting.get_value.Goals as goal

pub returns-then-get_flag_slot-clause-ok : goal.returns-then-get_flag_slot-clause-ok
returns-then-get_flag_slot-clause-ok c = zero_got _ _ _ _ _ _ _ c.if-get_flag_slot.true c.get_flag_slot.ensures.gets

pub returns-in_err-exponent-clause-bad : goal.returns-in_err-exponent-clause-bad
returns-in_err-exponent-clause-bad c =
    on_err _ (overlong_got _ _ _ _ _ _ _ _ c.if-get_flag_slot.false c.get_flag_slot.ensures.gets c.in_err-exponent.ensures.bad)

pub returns-clause-ok : goal.returns-clause-ok
returns-clause-ok c =
    let same : to_z w32 (of_z w32 c.get_rest.result) ≡ c.get_rest.result = to_z-of_z w32 c.get_rest.result c.get_rest.ensures.fits in
    rw same (value_got _ _ _ _ _ _ _ _ _ _ _ _ c.get_rest.result c.if-get_flag_slot.false c.get_rest.ensures.low c.get_rest.ensures.high c.in_ok-exponent.ensures.high c.get_flag_slot.ensures.gets c.in_ok-exponent.ensures.ok c.get_rest.ensures.gets)

pub returns-clause-codable : goal.returns-clause-codable
returns-clause-codable c =
    let same : to_z w32 (of_z w32 c.get_rest.result) ≡ c.get_rest.result = to_z-of_z w32 c.get_rest.result c.get_rest.ensures.fits in
    let high = magnitude_fits _ _ c.get_rest.ensures.high c.in_ok-exponent.ensures.high in
    rw same (codable _ _ _ _ refl refl high c.get_rest.ensures.unsigned)

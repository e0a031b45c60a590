use Rattle.std.proofs.Common.{◌≡◌, w32, to_z, of_z}
use Rattle.std.proofs.lemmas.Int.{to_z-of_z}
use Rattle.range_coder.proofs.Exponents.{magnitude_fits}
use Rattle.range_coder.proofs.Symbols.{rest_got}
use Rattle.range_coder.proofs.getting.get_rest.Goals as goal

pub with_sign-requires-clause-high : goal.with_sign-requires-clause-high
with_sign-requires-clause-high c = magnitude_fits _ _ c.get_low_bits-magnitude.ensures.high c.requires.exponent

pub returns-clause-gets : goal.returns-clause-gets
returns-clause-gets c =
    let same : to_z w32 (of_z w32 c.with_sign.result) ≡ c.with_sign.result = to_z-of_z w32 c.with_sign.result c.with_sign.ensures.fits in
    rw same (rest_got _ _ _ _ _ _ _ _ _ _ _ c.with_sign.result c.with_sign.ensures.magnitude c.with_sign.ensures.sign c.get_low_bits-magnitude.ensures.gets c.get_sign-negative.ensures.gets)

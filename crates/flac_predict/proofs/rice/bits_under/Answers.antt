use Rattle.std.proofs.Common.{arith}
use Rattle.flac_predict.proofs.RiceLaws.{bits_are}
use Rattle.flac_predict.proofs.rice.bits_under.Goals as goal

pub returns-clause-bits : goal.returns-clause-bits
returns-clause-bits c =
    let b = bits_are c.args.parameter c.args.residuals.now in
    let h = c.shifted_sum-sum.ensures.sum in
    let f = c.field_bits.ensures.field in
    omega (arith, b, h, f)

use Rattle.std.proofs.Common.{arith}
use Rattle.flac_predict.proofs.RiceLaws.{next_least}
use Rattle.flac_predict.proofs.rice.climbed.Goals as goal

pub returns-then-bits-count-clause-up : goal.returns-then-bits-count-clause-up
returns-then-bits-count-clause-up c = λ _.
    let least = next_least c.loop-at.at c.args.residuals.now in
    let b = c.loop-at.invariant.bits in
    let l = c.if-bits-count.true in
    omega (arith, least, b, l)

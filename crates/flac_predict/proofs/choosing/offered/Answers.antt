use Rattle.std.proofs.Common.{arith}
use Rattle.flac_predict.proofs.RiceLaws.{least_takes}
use Rattle.flac_predict.proofs.choosing.offered.Goals as goal

pub returns-then-sum-sum_reaching : goal.returns-then-sum-sum_reaching
returns-then-sum-sum_reaching c =
    let sum = c.shifted_sum-sum.result in
    let takes = least_takes c.args.residuals.now sum c.saturating_sub.result c.shifted_sum-sum.ensures.sum (λ k l. c.sum_reaching.ensures sum k c.if-sum-sum_reaching.true l) in
    omega (arith, takes, c.saturating_sub.ensures)

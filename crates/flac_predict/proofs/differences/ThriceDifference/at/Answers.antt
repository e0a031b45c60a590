use Rattle.std.proofs.Common.{arith, ◌+◌}
use Rattle.std.proofs.lemmas.Int.{ints}
use Rattle.flac_predict.proofs.SmallLaws.{residual_is}
use Rattle.flac_predict.proofs.differences.ThriceDifference.at.Goals as goal

pub returns-clause-residual : goal.returns-clause-residual
returns-clause-residual c =
    residual_is 2 c.args.samples.now c.args.place (c.args.place + 1) c.at-2.result c.at.result _ (omega arith) (omega arith) c.at.ensures.residual c.at-2.ensures.residual (omega (arith, ints))

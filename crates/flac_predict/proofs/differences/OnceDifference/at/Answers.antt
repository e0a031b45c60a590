use Rattle.std.proofs.Common.{arith, ◌+◌}
use Rattle.std.proofs.lemmas.Int.{ints}
use Rattle.flac_predict.proofs.SmallLaws.{first_residual_is}
use Rattle.flac_predict.proofs.differences.OnceDifference.at.Goals as goal

pub returns-clause-residual : goal.returns-clause-residual
returns-clause-residual c =
    let i = c.requires.samples.each (c.args.place + 1) in
    let j = c.requires.samples.each c.args.place in
    first_residual_is c.args.samples.now c.args.place (c.args.place + 1) _ (omega arith) (omega arith) (omega (arith, ints, i.low, i.high, j.low, j.high))

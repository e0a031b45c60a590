use Rattle.std.proofs.Common.{arith}
use Rattle.std.proofs.lemmas.Int.{ints}
use Rattle.flac_predict.proofs.StepLaws.{lasts_of_four, lasts_fit_four}
use Rattle.flac_predict.proofs.sums.FourSumsSums.of.Goals as goal

pub returns-clause-last : goal.returns-clause-last
returns-clause-last c =
    let i = c.requires.inside.each 3 in
    lasts_of_four c.args.warm_up.now _ _ _ _ (omega (arith, ints, i.low, i.high)) (omega (arith, ints)) (omega (arith, ints)) (omega (arith, ints))

pub returns-clause-fits : goal.returns-clause-fits
returns-clause-fits c =
    let i = c.requires.inside.each 3 in
    lasts_fit_four c.args.warm_up.now c.at-first.result c.at-second.result c.at-third.result _ _ _ _ c.requires.inside (omega (arith, ints, i.low, i.high)) (omega (arith, ints)) (omega (arith, ints)) (omega (arith, ints)) c.at-first.ensures.inside c.at-second.ensures.inside c.at-third.ensures.inside

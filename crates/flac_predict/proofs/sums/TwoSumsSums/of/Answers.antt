use Rattle.std.proofs.Common.{arith}
use Rattle.std.proofs.lemmas.Int.{ints}
use Rattle.flac_predict.proofs.StepLaws.{lasts_of_two, lasts_fit_two}
use Rattle.flac_predict.proofs.sums.TwoSumsSums.of.Goals as goal

pub returns-clause-last : goal.returns-clause-last
returns-clause-last c = lasts_of_two _ _ _ (c.requires.count) (omega (arith, ints)) (omega (arith, ints))

pub returns-clause-fits : goal.returns-clause-fits
returns-clause-fits c = lasts_fit_two c.args.warm_up.now _ _ c.requires.inside (omega (arith, ints)) (omega (arith, ints))

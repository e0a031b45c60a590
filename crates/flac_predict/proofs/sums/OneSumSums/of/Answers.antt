use Rattle.std.proofs.Common.{arith}
use Rattle.std.proofs.lemmas.Int.{ints}
use Rattle.flac_predict.proofs.StepLaws.{lasts_of_one}
use Rattle.flac_predict.proofs.sums.OneSumSums.of.Goals as goal

pub returns-clause-last : goal.returns-clause-last
returns-clause-last c = lasts_of_one _ _ (omega (arith, ints))

use Rattle.std.proofs.Common.{arith}
use Rattle.std.proofs.lemmas.Int.{ints}
use Rattle.flac_predict.proofs.StepLaws.{next_of_one}
use Rattle.flac_predict.proofs.sums.OneSumSums.next.Goals as goal

pub returns-clause-following : goal.returns-clause-following
returns-clause-following c = λ more. next_of_one _ _ _ _ more (omega (arith, ints)) (omega (arith, ints))

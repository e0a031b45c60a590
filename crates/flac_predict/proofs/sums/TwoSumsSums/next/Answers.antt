use Rattle.std.proofs.Common.{arith}
use Rattle.std.proofs.lemmas.Int.{ints}
use Rattle.flac_predict.proofs.StepLaws.{next_of_two, fits_of_two}
use Rattle.flac_predict.proofs.sums.TwoSumsSums.next.Goals as goal

pub returns-clause-following : goal.returns-clause-following
returns-clause-following c = λ more. next_of_two _ _ _ _ _ _ more (omega (arith, ints)) (omega (arith, ints)) (omega (arith, ints))

pub returns-clause-fits : goal.returns-clause-fits
returns-clause-fits c = λ h. fits_of_two _ _ _ _ _ c.requires (omega (arith, ints)) (omega (arith, ints)) h

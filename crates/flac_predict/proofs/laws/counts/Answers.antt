use Rattle.flac_predict.proofs.FixedLaws.{length-fixed_residuals, length-fixed_restored}
use Rattle.flac_predict.proofs.LinearLaws.{length-linear_residuals, length-linear_restored}
use Rattle.std.proofs.Common.{length, refl}
use Rattle.flac_predict.proofs.laws.counts.Goals as goal

pub returns-clause-fixed : goal.returns-clause-fixed
returns-clause-fixed c = length-fixed_residuals

pub returns-clause-fixed_restored : goal.returns-clause-fixed_restored
returns-clause-fixed_restored c = λ w r. length-fixed_restored (length w) w r refl

pub returns-clause-linear : goal.returns-clause-linear
returns-clause-linear c = length-linear_residuals

pub returns-clause-linear_restored : goal.returns-clause-linear_restored
returns-clause-linear_restored c = length-linear_restored

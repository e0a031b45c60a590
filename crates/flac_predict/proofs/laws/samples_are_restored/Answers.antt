use Rattle.flac_predict.proofs.FixedLaws.{fixed_is_restored}
use Rattle.flac_predict.proofs.LinearLaws.{linear_is_restored}
use Rattle.flac_predict.proofs.laws.samples_are_restored.Goals as goal

pub returns-clause-fixed : goal.returns-clause-fixed
returns-clause-fixed c = fixed_is_restored

pub returns-clause-linear : goal.returns-clause-linear
returns-clause-linear c = linear_is_restored

use Rattle.flac_predict.proofs.SmallLaws.{fixed_is_small}
use Rattle.flac_predict.proofs.BankLaws.{linear_is_small, bank_is_linear}
use Rattle.flac_predict.proofs.laws.residuals_are_small.Goals as goal

pub returns-clause-fixed : goal.returns-clause-fixed
returns-clause-fixed c = fixed_is_small

pub returns-clause-linear : goal.returns-clause-linear
returns-clause-linear c = linear_is_small

pub returns-clause-sets : goal.returns-clause-sets
returns-clause-sets c = bank_is_linear

use Rattle.flac_predict.proofs.RiceLaws.{parameter_is_best}
use Rattle.flac_predict.proofs.ChoiceLaws.{candidate_is_best}
use Rattle.flac_predict.proofs.laws.choice_is_first.Goals as goal

pub returns-clause-parameter : goal.returns-clause-parameter
returns-clause-parameter c = parameter_is_best

pub returns-clause-candidate : goal.returns-clause-candidate
returns-clause-candidate c = candidate_is_best

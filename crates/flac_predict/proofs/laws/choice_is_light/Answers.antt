use Rattle.flac_predict.proofs.ChoiceLaws.{best_is_candidate, best_is_light}
use Rattle.flac_predict.proofs.laws.choice_is_light.Goals as goal

pub returns-clause-candidate : goal.returns-clause-candidate
returns-clause-candidate c = best_is_candidate

pub returns-clause-light : goal.returns-clause-light
returns-clause-light c = best_is_light

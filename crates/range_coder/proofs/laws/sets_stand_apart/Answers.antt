use Rattle.range_coder.proofs.ChoiceLaws.{decided-moved, states_after-moved}
use Rattle.range_coder.proofs.laws.sets_stand_apart.Goals as goal

pub returns-clause-decided : goal.returns-clause-decided
returns-clause-decided c = decided-moved

pub returns-clause-states : goal.returns-clause-states
returns-clause-states c = states_after-moved

use Rattle.range_coder.proofs.ChoiceLaws.{live_after, decided_on_states, length-states_after}
use Rattle.range_coder.proofs.Codings.{puts_kept, gets_kept}
use Rattle.range_coder.proofs.laws.choices_stay_live.Goals as goal

pub returns-clause-live : goal.returns-clause-live
returns-clause-live c = live_after

pub returns-clause-states : goal.returns-clause-states
returns-clause-states c = decided_on_states

pub returns-clause-count : goal.returns-clause-count
returns-clause-count c = length-states_after

pub returns-clause-put : goal.returns-clause-put
returns-clause-put c = puts_kept

pub returns-clause-got : goal.returns-clause-got
returns-clause-got c = gets_kept

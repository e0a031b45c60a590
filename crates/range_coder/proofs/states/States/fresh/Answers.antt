use Rattle.std.proofs.Common.{refl}
use Rattle.range_coder.specs.Symbol.{fresh_states}
use Rattle.range_coder.proofs.Slots.{fresh_live}
use Rattle.range_coder.proofs.states.States.fresh.Goals as goal

pub returns-clause-states : goal.returns-clause-states
unfolding fresh_states
returns-clause-states c = refl

pub returns-clause-live : goal.returns-clause-live
returns-clause-live c = fresh_live

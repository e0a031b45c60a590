use Rattle.range_coder.proofs.ChoiceLaws.{decided-append, states_after-append}
use Rattle.range_coder.proofs.CodedLaws.{read_on_joined, narrowed-append}
use Rattle.range_coder.proofs.laws.lists_are_joined.Goals as goal

pub returns-clause-read : goal.returns-clause-read
returns-clause-read c = read_on_joined

pub returns-clause-narrowed : goal.returns-clause-narrowed
returns-clause-narrowed c = narrowed-append

pub returns-clause-decided : goal.returns-clause-decided
returns-clause-decided c = decided-append

pub returns-clause-states : goal.returns-clause-states
returns-clause-states c = states_after-append

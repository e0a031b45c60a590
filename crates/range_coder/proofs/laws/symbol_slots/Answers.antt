use Rattle.range_coder.proofs.SlotsOfSymbols.{symbol_slots, overlong_slots}
use Rattle.range_coder.proofs.laws.symbol_slots.Goals as goal

pub returns-clause-number : goal.returns-clause-number
returns-clause-number c = symbol_slots

pub returns-clause-overlong : goal.returns-clause-overlong
returns-clause-overlong c = overlong_slots

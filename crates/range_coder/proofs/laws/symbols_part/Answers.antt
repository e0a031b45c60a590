use Rattle.range_coder.proofs.Parting.{symbols_part, overlong_parts}
use Rattle.range_coder.proofs.laws.symbols_part.Goals as goal

pub returns-clause-numbers : goal.returns-clause-numbers
returns-clause-numbers c = symbols_part

pub returns-clause-overlong : goal.returns-clause-overlong
returns-clause-overlong c = overlong_parts

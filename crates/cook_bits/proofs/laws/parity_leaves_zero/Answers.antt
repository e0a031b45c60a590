use Rattle.cook_bits.proofs.Parity.{only_parity, parity}
use Rattle.cook_bits.proofs.laws.parity_leaves_zero.Goals as goal

pub returns-clause-parity : goal.returns-clause-parity
returns-clause-parity c = parity

pub returns-clause-only : goal.returns-clause-only
returns-clause-only c = only_parity

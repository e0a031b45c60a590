use Rattle.range_coder.proofs.Exponents.{exponent_is}
use Rattle.range_coder.proofs.putting.exponent_of.Goals as goal

pub returns-clause-exponent : goal.returns-clause-exponent
returns-clause-exponent c = exponent_is _ _ c.ilog2.ensures.power_le c.ilog2.ensures.next_power_gt c.ilog2.ensures.bound

use Rattle.std.proofs.Common.{rules}
use Rattle.std.proofs.lemmas.Fn.{always_returns_same}
use Rattle.cook_pack.proofs.OrderLaws.{may_precede, in_order, is_told_in_order}
use Rattle.cook_pack.proofs.planning.is_in_order.Goals as goal

-- the closure says whether one entry may stand before the other
pub returns-clause-order : goal.returns-clause-order
returns-clause-order c = λ so. in_order _ _ (c.is_sorted_by.ensures.cases may_precede (always_returns_same _ _ _ (λ a r f called. search rules))) so

pub returns-clause-other : goal.returns-clause-other
returns-clause-other c = λ sorted. is_told_in_order _ _ (c.is_sorted_by.ensures.cases may_precede (always_returns_same _ _ _ (λ a r f called. search rules))) sorted

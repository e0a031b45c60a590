use Rattle.std.proofs.Common.{rules}
use Rattle.std.proofs.lemmas.Fn.{always_returns_same}
use Rattle.std.proofs.lemmas.List.Sorted.{ranks_by}
use Rattle.std.specs.Cmp.Lexicographic.{nat_list_cmp_total}
use Rattle.cook_pack.specs.Entries.{name_of}
use Rattle.cook_pack.proofs.planning.put_in_order.Goals as goal

-- the closure compares by name
pub returns-then-not-is_in_order-clause-order : goal.returns-then-not-is_in_order-clause-order
returns-then-not-is_in_order-clause-order c = c.sort_unstable_by.ensures.sorted _ (ranks_by nat_list_cmp_total name_of) (always_returns_same _ _ _ (λ a r f called. search rules))

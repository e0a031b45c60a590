use Rattle.cook_top.proofs.WordLaws.{order_of-count, order_of-three}
use Rattle.cook_top.proofs.words.read_words.Goals as goal

pub returns-then-words-ne3-clause-usage : goal.returns-then-words-ne3-clause-usage
returns-then-words-ne3-clause-usage c = order_of-count c.args.words.now c.if-words-ne3.true

pub returns-clause-order : goal.returns-clause-order
returns-clause-order c =
    rw (order_of-three c.args.words.now _ _ _ c.if-words-ne3.false c.index-words-0.is c.index-words-1.is c.index-words-2.is, ← c.as_str.ensures.value, ← c.as_str-2.ensures.value, ← c.as_str-3.ensures.value) c.command_order.ensures.order

pub returns-clause-usage : goal.returns-clause-usage
returns-clause-usage c =
    rw (order_of-three c.args.words.now _ _ _ c.if-words-ne3.false c.index-words-0.is c.index-words-1.is c.index-words-2.is, ← c.as_str.ensures.value, ← c.as_str-2.ensures.value, ← c.as_str-3.ensures.value) c.command_order.ensures.usage

use Rattle.range_coder.proofs.Tables.{next_by_ones, next_by_zeros, next_is_live}
use Rattle.range_coder.proofs.table.Table.next.Goals as goal

pub returns-then-bit-clause-next : goal.returns-then-bit-clause-next
returns-then-bit-clause-next c = next_by_ones _ _ _ _ _ c.self.view_is c.from.ensures c.if-bit.true

pub returns-then-bit-clause-live : goal.returns-then-bit-clause-live
returns-then-bit-clause-live c =
    next_is_live _ _ _ _ _ _ c.self.invariant c.self.view_is c.requires (next_by_ones _ _ _ _ _ c.self.view_is c.from.ensures c.if-bit.true)

pub returns-else-bit-clause-next : goal.returns-else-bit-clause-next
returns-else-bit-clause-next c =
    next_by_zeros _ _ _ _ _ _ c.self.invariant c.self.view_is c.from-else-bit.ensures c.if-bit.false c.requires

pub returns-else-bit-clause-live : goal.returns-else-bit-clause-live
returns-else-bit-clause-live c =
    next_is_live _ _ _ _ _ _ c.self.invariant c.self.view_is c.requires (next_by_zeros _ _ _ _ _ _ c.self.invariant c.self.view_is c.from-else-bit.ensures c.if-bit.false c.requires)

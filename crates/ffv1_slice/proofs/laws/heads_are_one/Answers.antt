use Rattle.std.proofs.Common.{arith}
use Rattle.ffv1_slice.proofs.Beginnings.{one_beginning}
use Rattle.ffv1_slice.proofs.OneTile.{fresh_live, fresh_closed}
use Rattle.ffv1_slice.proofs.laws.heads_are_one.Goals as goal

pub returns : goal.returns
returns c params first bytes head head' sound are a b =
    one_beginning c.symbols_part.ensures.numbers c.symbol_slots.ensures.number c.sets_of_states.ensures c.one_list_is_read.ensures params first bytes head head'
    (fresh_closed params c.default_table-table.result sound c.default_table-table.ensures.table c.default_table-table.ensures.closed)
    (fresh_live c.sets_of_states.ensures params c.default_table-table.result sound c.default_table-table.ensures.table (c.default_table-table.ensures.live 128 (omega arith) (omega arith)))
    sound are a b

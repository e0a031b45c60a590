use Rattle.std.proofs.Common.{arith}
use Rattle.ffv1_slice.proofs.CodedSlice.{coded_slice}
use Rattle.ffv1_slice.proofs.OneTile.{one_slice, fresh_live, fresh_closed}
use Rattle.ffv1_slice.proofs.laws.n5.Goals as goal

pub returns : goal.returns
returns c = record {
  codes = λ params head width height first tile sound inside some t.
      coded_slice c.symbol_slots.ensures.number c.sets_of_states.ensures c.n3.ensures.reads c.choices_stay_live.ensures.states params head width height first tile
      (fresh_closed params c.default_table-table.result sound c.default_table-table.ensures.table c.default_table-table.ensures.closed)
      (fresh_live c.sets_of_states.ensures params c.default_table-table.result sound c.default_table-table.ensures.table (c.default_table-table.ensures.live 128 (omega arith) (omega arith)))
      sound inside some t;
  one = λ params first width height bytes head head' tile tile' sound are some l r.
      one_slice c.symbols_part.ensures.numbers c.symbol_slots.ensures.number c.sets_of_states.ensures c.one_list_is_read.ensures params first width height bytes head head' tile tile'
      (fresh_closed params c.default_table-table.result sound c.default_table-table.ensures.table c.default_table-table.ensures.closed)
      (fresh_live c.sets_of_states.ensures params c.default_table-table.result sound c.default_table-table.ensures.table (c.default_table-table.ensures.live 128 (omega arith) (omega arith)))
      sound are some l r;
}

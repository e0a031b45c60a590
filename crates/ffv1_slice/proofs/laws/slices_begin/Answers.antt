use Rattle.std.proofs.Common.{arith}
use Rattle.range_coder.specs.Interval.{coded}
use Rattle.ffv1_slice.specs.Slice.{slice_decisions}
use Rattle.ffv1_slice.proofs.Beginnings.{decisions_on, begins_with}
use Rattle.ffv1_slice.proofs.CodedSlice.{coded_slice}
use Rattle.ffv1_slice.proofs.Lengths.{slice_few}
use Rattle.ffv1_slice.proofs.OneTile.{fresh_live, fresh_closed}
use Rattle.ffv1_slice.proofs.laws.slices_begin.Goals as goal

pub returns : goal.returns
returns c = record {
  tell = λ params first width height bytes head tile sound are codes.
      begins_with c.front_is_read.ensures c.lists_are_joined.ensures.decided c.symbol_slots.ensures.number c.sets_of_states.ensures c.choices_stay_live.ensures.states params first width height bytes head tile
      (fresh_closed params c.default_table-table.result sound c.default_table-table.ensures.table c.default_table-table.ensures.closed)
      (fresh_live c.sets_of_states.ensures params c.default_table-table.result sound c.default_table-table.ensures.table (c.default_table-table.ensures.live 128 (omega arith) (omega arith)))
      sound are codes;
  head = λ params head width height first tile sound inside some t.
      let closed = fresh_closed params c.default_table-table.result sound c.default_table-table.ensures.table c.default_table-table.ensures.closed in
      let live = fresh_live c.sets_of_states.ensures params c.default_table-table.result sound c.default_table-table.ensures.table (c.default_table-table.ensures.live 128 (omega arith) (omega arith)) in
      begins_with c.front_is_read.ensures c.lists_are_joined.ensures.decided c.symbol_slots.ensures.number c.sets_of_states.ensures c.choices_stay_live.ensures.states params first width height
      (coded (slice_decisions params head width height first tile)) head tile closed live sound (c.coded_are_bytes.ensures (slice_decisions params head width height first tile))
      (coded_slice c.symbol_slots.ensures.number c.sets_of_states.ensures c.n3.ensures.reads c.choices_stay_live.ensures.states params head width height first tile closed live sound inside some t);
  some = λ params head width height first tile sound inside some t.
      (c.n3.ensures.begins (slice_decisions params head width height first tile)
      (decisions_on c.symbol_slots.ensures.number c.sets_of_states.ensures c.choices_stay_live.ensures.states params head width height first tile
      (fresh_closed params c.default_table-table.result sound c.default_table-table.ensures.table c.default_table-table.ensures.closed)
      (fresh_live c.sets_of_states.ensures params c.default_table-table.result sound c.default_table-table.ensures.table (c.default_table-table.ensures.live 128 (omega arith) (omega arith)))
      sound inside some t)).0;
  few = λ params head width height first tile sound inside small. slice_few c.code_lengths.ensures params head width height first tile sound inside small;
}

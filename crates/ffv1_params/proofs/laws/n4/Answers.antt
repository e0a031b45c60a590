use Rattle.std.proofs.Common.{List, ℕ, sym, subst, ap, ◌∙◌, length, arith}
use Rattle.range_coder.specs.Table.{AreLive, IsClosed}
use Rattle.range_coder.specs.DefaultTable.{default_one_states}
use Rattle.ffv1_params.proofs.SymbolLaws.{Promises, SymbolPromises}
use Rattle.ffv1_params.proofs.Expected.{Given}
use Rattle.ffv1_params.proofs.RoundTrip.{film_again}
use Rattle.ffv1_params.proofs.laws.n4.Goals as goal

pub returns : goal.returns
returns c =
    let promises : Promises = record { one = c.n3.ensures.one; front = c.front_is_read.ensures; inside = c.read_is_inside.ensures; narrows = c.lists_are_joined.ensures.narrowed; decides = c.lists_are_joined.ensures.decided; adapts = c.lists_are_joined.ensures.states; live = c.choices_stay_live.ensures.live; on_states = c.choices_stay_live.ensures.states; count = c.choices_stay_live.ensures.count } in
    let symbols : SymbolPromises = record { parts = c.symbols_part.ensures.numbers; overlong = c.symbols_part.ensures.overlong; slots = c.symbol_slots.ensures.number; overlong_slots = c.symbol_slots.ensures.overlong } in
    let table = c.default_table-table in
    let states = c.fresh-states in
    let live = states.ensures.live table.result (table.ensures.live 128 (omega arith) (omega arith)) in
    let given : Given = record {
      promises = promises;
      symbols = symbols;
      closed = subst IsClosed table.ensures.table table.ensures.closed;
      fresh = subst (AreLive default_one_states) states.ensures.states (subst (λ (next : List ℕ). AreLive next states.result) table.ensures.table live);
      count = ap length (sym states.ensures.states) ∙ states.ensures.count;
    } in
    film_again given c.n3.ensures.reads c.coded_are_bytes.ensures c.n3.ensures.begins c.parity_leaves_zero.ensures.parity

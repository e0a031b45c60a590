use Rattle.ffv1_params.specs.declared.error.ParamsWhy.TheVariants.{Symbol}
use Rattle.ffv1_params.specs.Reading.{symbol}
use Rattle.ffv1_params.specs.Walk.{reader_at}
use Rattle.ffv1_params.proofs.SymbolLaws.{Promises, SymbolPromises, number_answered, number_refused}
use Rattle.ffv1_params.proofs.WalkLaws.{fails}
use Rattle.ffv1_params.proofs.runs.symbol_of.Goals as goal

pub returns-in-Ok-clause-answers : goal.returns-in-Ok-clause-answers
returns-in-Ok-clause-answers c =
    let promises : Promises = record { one = c.n3.ensures.one; front = c.front_is_read.ensures; inside = c.read_is_inside.ensures; narrows = c.lists_are_joined.ensures.narrowed; decides = c.lists_are_joined.ensures.decided; adapts = c.lists_are_joined.ensures.states; live = c.choices_stay_live.ensures.live; on_states = c.choices_stay_live.ensures.states; count = c.choices_stay_live.ensures.count } in
    let symbols : SymbolPromises = record { parts = c.symbols_part.ensures.numbers; overlong = c.symbols_part.ensures.overlong; slots = c.symbol_slots.ensures.number; overlong_slots = c.symbol_slots.ensures.overlong } in
    number_answered promises symbols c.args.table.now c.args.decoder.now c.get_symbol.new.decoder c.args.states.now c.get_symbol.new.states c.in-Ok.number c.requires.default c.in-Ok.ensures.closed c.in-Ok.ensures.codable c.in-Ok.ensures.ok

pub returns-in-Err-clause-answers : goal.returns-in-Err-clause-answers
returns-in-Err-clause-answers c =
    let promises : Promises = record { one = c.n3.ensures.one; front = c.front_is_read.ensures; inside = c.read_is_inside.ensures; narrows = c.lists_are_joined.ensures.narrowed; decides = c.lists_are_joined.ensures.decided; adapts = c.lists_are_joined.ensures.states; live = c.choices_stay_live.ensures.live; on_states = c.choices_stay_live.ensures.states; count = c.choices_stay_live.ensures.count } in
    let symbols : SymbolPromises = record { parts = c.symbols_part.ensures.numbers; overlong = c.symbols_part.ensures.overlong; slots = c.symbol_slots.ensures.number; overlong_slots = c.symbol_slots.ensures.overlong } in
    fails (reader_at c.args.decoder.now c.args.states.now) symbol Symbol (number_refused promises symbols c.args.table.now c.args.decoder.now c.get_symbol.new.decoder c.args.states.now c.get_symbol.new.states c.requires.default c.in-Err.ensures.closed c.in-Err.ensures.bad)

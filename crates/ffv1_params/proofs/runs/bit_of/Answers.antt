use Rattle.ffv1_params.proofs.SymbolLaws.{Promises, bit_answered}
use Rattle.ffv1_params.proofs.runs.bit_of.Goals as goal

pub returns-clause-answers : goal.returns-clause-answers
returns-clause-answers c =
    let promises : Promises = record { one = c.n3.ensures.one; front = c.front_is_read.ensures; inside = c.read_is_inside.ensures; narrows = c.lists_are_joined.ensures.narrowed; decides = c.lists_are_joined.ensures.decided; adapts = c.lists_are_joined.ensures.states; live = c.choices_stay_live.ensures.live; on_states = c.choices_stay_live.ensures.states; count = c.choices_stay_live.ensures.count } in
    bit_answered promises c.args.table.now c.args.decoder.now c.get.new.decoder c.args.states.now c.get.new.self c.get.result c.requires.default c.get.ensures.closed c.get.ensures.gets

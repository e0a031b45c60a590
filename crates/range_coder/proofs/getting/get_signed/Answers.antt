use Rattle.std.proofs.lemmas.Result.{on_err_weaker}
use Rattle.range_coder.proofs.Slots.{ok_of_both}
use Rattle.range_coder.proofs.Symbols.{zero_got, overlong_got, symbol_got_behind}
use Rattle.range_coder.proofs.getting.get_signed.Goals as goal

pub returns-then-get_flag_slot-clause-ok : goal.returns-then-get_flag_slot-clause-ok
returns-then-get_flag_slot-clause-ok c = zero_got _ _ _ _ _ _ _ c.if-get_flag_slot.true c.get_flag_slot.ensures.gets

pub returns-clause-ok : goal.returns-clause-ok
returns-clause-ok c =
    ok_of_both c.get_usual.result _ _ _ (λ value some g. symbol_got_behind _ _ _ _ _ _ _ _ _ value c.if-get_flag_slot.false some c.get_flag_slot.ensures.gets g) c.get_usual.ensures.some c.get_usual.ensures.ok

pub returns-clause-bad : goal.returns-clause-bad
returns-clause-bad c =
    on_err_weaker c.get_usual.result (λ g. overlong_got _ _ _ _ _ _ _ _ c.if-get_flag_slot.false c.get_flag_slot.ensures.gets g) c.get_usual.ensures.bad

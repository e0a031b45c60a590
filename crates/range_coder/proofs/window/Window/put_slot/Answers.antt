use Rattle.std.proofs.Common.{refl}
use Rattle.range_coder.proofs.Slots.{puts_one, puts_none, on_err}
use Rattle.range_coder.proofs.window.Window.put_slot.Goals as goal

pub returns-in_err-put-clause-err : goal.returns-in_err-put-clause-err
returns-in_err-put-clause-err c =
    on_err _ (puts_none _ _ _ _ _ _ _ c.put.new.state c.in_err-put.ensures.err c.requires.slot c.in_err-put.ensures.same refl c.in_err-put.ensures.room)

pub returns-clause-ok : goal.returns-clause-ok
returns-clause-ok c =
    puts_one _ _ _ _ _ _ _ c.put.new.state c.in_ok-put.ensures.ok c.in_ok-put.ensures.next refl c.put.ensures.spare

use Rattle.range_coder.proofs.Slots.{on_err}
use Rattle.range_coder.proofs.Symbols.{none_of_number}
use Rattle.range_coder.proofs.Behind.{nonzero_put, nonzero_refused}
use Rattle.range_coder.proofs.putting.put_nonzero.Goals as goal

pub returns-in_err-put_slot-clause-err : goal.returns-in_err-put_slot-clause-err
returns-in_err-put_slot-clause-err c = on_err _ (none_of_number _ _ _ _ _ _ c.args.magnitude c.args.negative c.args.signed c.in_err-put_slot.ensures.err)

pub returns-clause-ok : goal.returns-clause-ok
returns-clause-ok c =
    nonzero_put c.put_behind.result _ _ _ _ _ _ _ c.args.magnitude c.args.negative c.args.signed c.in_ok-put_slot.ensures.ok c.put_behind.ensures.ok

pub returns-clause-err : goal.returns-clause-err
returns-clause-err c =
    nonzero_refused c.put_behind.result _ _ _ _ _ _ _ c.args.magnitude c.args.negative c.args.signed c.in_ok-put_slot.ensures.ok c.put_behind.ensures.err

use Rattle.range_coder.proofs.Slots.{on_err}
use Rattle.range_coder.proofs.Symbols.{none_of_number, some_of_number, exponent_of_number, bits_of_number, with_exponent, with_bits, number_put}
use Rattle.range_coder.proofs.putting.put_parts.Goals as goal

pub returns-in_err-put_slot-clause-err : goal.returns-in_err-put_slot-clause-err
returns-in_err-put_slot-clause-err c = on_err _ (none_of_number _ _ _ _ _ _ c.args.magnitude c.args.negative c.args.signed c.in_err-put_slot.ensures.err)

pub returns-in_err-put_exponent-clause-err : goal.returns-in_err-put_exponent-clause-err
returns-in_err-put_exponent-clause-err c =
    on_err _ (some_of_number _ _ _ _ _ _ _ _ _ c.args.magnitude c.args.negative c.args.signed c.requires.exponent c.in_ok-put_slot.ensures.ok c.in_err-put_exponent.ensures.err)

pub returns-in_err-put_low_bits-clause-err : goal.returns-in_err-put_low_bits-clause-err
returns-in_err-put_low_bits-clause-err c =
    on_err _ (exponent_of_number _ _ _ _ _ _ _ _ _ c.args.magnitude c.args.negative c.args.signed c.requires.exponent (with_exponent _ _ _ _ _ _ _ _ c.in_ok-put_slot.ensures.ok c.in_ok-put_exponent.ensures.ok) c.in_err-put_low_bits.ensures.err)

pub returns-in_err-put_sign-clause-err : goal.returns-in_err-put_sign-clause-err
returns-in_err-put_sign-clause-err c =
    on_err _ (bits_of_number _ _ _ _ _ _ _ _ _ c.args.magnitude c.args.negative c.args.signed c.requires.exponent (with_bits _ _ _ _ _ _ _ _ _ (with_exponent _ _ _ _ _ _ _ _ c.in_ok-put_slot.ensures.ok c.in_ok-put_exponent.ensures.ok) c.in_ok-put_low_bits.ensures.ok) c.in_err-put_sign.ensures.err)

pub returns-clause-ok : goal.returns-clause-ok
returns-clause-ok c =
    number_put _ _ _ _ _ _ _ _ _ c.args.magnitude c.args.negative c.args.signed c.requires.exponent (with_bits _ _ _ _ _ _ _ _ _ (with_exponent _ _ _ _ _ _ _ _ c.in_ok-put_slot.ensures.ok c.in_ok-put_exponent.ensures.ok) c.in_ok-put_low_bits.ensures.ok) c.in_ok-put_sign.ensures.ok

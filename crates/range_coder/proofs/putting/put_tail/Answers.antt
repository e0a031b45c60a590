use Rattle.std.proofs.Common.{ℕ, ◌+◌, ap}
use Rattle.range_coder.proofs.Slots.{on_err}
use Rattle.range_coder.proofs.Behind.{tail_put, end_refused, low_refused, sign_refused}
use Rattle.range_coder.proofs.putting.put_tail.Goals as goal

pub returns-in_err-put_slot-clause-err : goal.returns-in_err-put_slot-clause-err
returns-in_err-put_slot-clause-err c =
    on_err _ (end_refused _ _ _ _ _ c.args.exponent c.args.magnitude _ c.args.negative c.args.signed (ap (λ (n : ℕ). 1 + n) c.min.ensures) c.in_err-put_slot.ensures.err)

pub returns-in_err-put_low_bits-clause-err : goal.returns-in_err-put_low_bits-clause-err
returns-in_err-put_low_bits-clause-err c =
    on_err _ (low_refused _ _ _ _ _ _ _ c.args.exponent c.args.magnitude _ c.args.negative c.args.signed (ap (λ (n : ℕ). 1 + n) c.min.ensures) c.in_ok-put_slot.ensures.ok c.in_err-put_low_bits.ensures.err)

pub returns-in_err-put_sign-clause-err : goal.returns-in_err-put_sign-clause-err
returns-in_err-put_sign-clause-err c =
    on_err _ (sign_refused _ _ _ _ _ _ _ _ _ c.args.exponent c.args.magnitude _ c.args.negative c.args.signed (ap (λ (n : ℕ). 1 + n) c.min.ensures) c.in_ok-put_slot.ensures.ok c.in_ok-put_low_bits.ensures.ok c.in_err-put_sign.ensures.err)

pub returns-clause-ok : goal.returns-clause-ok
returns-clause-ok c =
    tail_put _ _ _ _ _ _ _ _ _ c.args.exponent c.args.magnitude _ c.args.negative c.args.signed (ap (λ (n : ℕ). 1 + n) c.min.ensures) c.in_ok-put_slot.ensures.ok c.in_ok-put_low_bits.ensures.ok c.in_ok-put_sign.ensures.ok

use Rattle.std.proofs.Common.{ℕ, ◌+◌, ap}
use Rattle.range_coder.proofs.Slots.{on_err}
use Rattle.range_coder.proofs.Symbols.{exponent_put, exponent_refused}
use Rattle.range_coder.proofs.putting.put_exponent.Goals as goal

pub returns-in_err-put_slot-clause-err : goal.returns-in_err-put_slot-clause-err
returns-in_err-put_slot-clause-err c =
    on_err _ (exponent_refused _ _ _ _ _ _ _ _ _ c.in_ok-put_ones.ensures.ok (ap (λ (n : ℕ). 1 + n) c.min.ensures) c.in_err-put_slot.ensures.err)

pub returns-clause-ok : goal.returns-clause-ok
returns-clause-ok c =
    exponent_put _ _ _ _ _ _ _ _ _ c.in_ok-put_ones.ensures.ok (ap (λ (n : ℕ). 1 + n) c.min.ensures) c.in_ok-put_slot.ensures.ok

use Rattle.std.proofs.Common.{◌≡◌, ◌<◌, refl, arith}
use Rattle.range_coder.specs.Symbol.{exponent_of}
use Rattle.range_coder.proofs.Slots.{on_err}
use Rattle.range_coder.proofs.Exponents.{exponent_is}
use Rattle.range_coder.proofs.Symbols.{no_ones_put, one_put}
use Rattle.range_coder.proofs.Behind.{behind_put, behind_refused, behind_stopped, exponent_more, as_many_put}
use Rattle.range_coder.proofs.putting.put_behind.Goals as goal

pub returns-then-magnitude-lt2-clause-ok : goal.returns-then-magnitude-lt2-clause-ok
returns-then-magnitude-lt2-clause-ok c =
    let h0 = no_ones_put _ _ _ c.requires.live in
    behind_put c.put_tail.result _ _ _ _ _ _ _ 0 c.args.magnitude c.args.negative c.args.signed h0 (exponent_is _ 0 c.requires.some c.if-magnitude-lt2.true (omega arith)) c.put_tail.ensures.ok

pub returns-then-magnitude-lt2-clause-err : goal.returns-then-magnitude-lt2-clause-err
returns-then-magnitude-lt2-clause-err c =
    let h0 = no_ones_put _ _ _ c.requires.live in
    behind_refused c.put_tail.result _ _ _ _ _ _ _ 0 c.args.magnitude c.args.negative c.args.signed h0 (exponent_is _ 0 c.requires.some c.if-magnitude-lt2.true (omega arith)) c.put_tail.ensures.err

pub returns-in_err-put_one-clause-err : goal.returns-in_err-put_one-clause-err
returns-in_err-put_one-clause-err c =
    let h0 = no_ones_put _ _ _ c.requires.live in
    on_err _ (behind_stopped _ _ _ _ _ _ _ 0 c.args.magnitude c.args.negative c.args.signed h0 (exponent_more _ 0 (omega arith) c.if-magnitude-lt2.false) c.in_err-put_one.ensures.err)

pub returns-then-magnitude-lt4-clause-ok : goal.returns-then-magnitude-lt4-clause-ok
returns-then-magnitude-lt4-clause-ok c =
    let h0 = no_ones_put _ _ _ c.requires.live in
    let h1 = one_put _ _ _ _ _ _ _ _ _ h0 refl c.in_ok-put_one.ensures.ok c.put_one.ensures.live in
    behind_put c.put_tail-then-magnitude-lt4.result _ _ _ _ _ _ _ 1 c.args.magnitude c.args.negative c.args.signed h1 (exponent_is _ 1 c.if-magnitude-lt2.false c.if-magnitude-lt4.true (omega arith)) c.put_tail-then-magnitude-lt4.ensures.ok

pub returns-then-magnitude-lt4-clause-err : goal.returns-then-magnitude-lt4-clause-err
returns-then-magnitude-lt4-clause-err c =
    let h0 = no_ones_put _ _ _ c.requires.live in
    let h1 = one_put _ _ _ _ _ _ _ _ _ h0 refl c.in_ok-put_one.ensures.ok c.put_one.ensures.live in
    behind_refused c.put_tail-then-magnitude-lt4.result _ _ _ _ _ _ _ 1 c.args.magnitude c.args.negative c.args.signed h1 (exponent_is _ 1 c.if-magnitude-lt2.false c.if-magnitude-lt4.true (omega arith)) c.put_tail-then-magnitude-lt4.ensures.err

pub returns-in_err-put_one-2-clause-err : goal.returns-in_err-put_one-2-clause-err
returns-in_err-put_one-2-clause-err c =
    let h0 = no_ones_put _ _ _ c.requires.live in
    let h1 = one_put _ _ _ _ _ _ _ _ _ h0 refl c.in_ok-put_one.ensures.ok c.put_one.ensures.live in
    on_err _ (behind_stopped _ _ _ _ _ _ _ 1 c.args.magnitude c.args.negative c.args.signed h1 (exponent_more _ 1 (omega arith) c.if-magnitude-lt4.false) c.in_err-put_one-2.ensures.err)

pub returns-then-magnitude-lt8-clause-ok : goal.returns-then-magnitude-lt8-clause-ok
returns-then-magnitude-lt8-clause-ok c =
    let h0 = no_ones_put _ _ _ c.requires.live in
    let h1 = one_put _ _ _ _ _ _ _ _ _ h0 refl c.in_ok-put_one.ensures.ok c.put_one.ensures.live in
    let h2 = one_put _ _ _ _ _ _ _ _ _ h1 refl c.in_ok-put_one-2.ensures.ok c.put_one-2.ensures.live in
    behind_put c.put_tail-then-magnitude-lt8.result _ _ _ _ _ _ _ 2 c.args.magnitude c.args.negative c.args.signed h2 (exponent_is _ 2 c.if-magnitude-lt4.false c.if-magnitude-lt8.true (omega arith)) c.put_tail-then-magnitude-lt8.ensures.ok

pub returns-then-magnitude-lt8-clause-err : goal.returns-then-magnitude-lt8-clause-err
returns-then-magnitude-lt8-clause-err c =
    let h0 = no_ones_put _ _ _ c.requires.live in
    let h1 = one_put _ _ _ _ _ _ _ _ _ h0 refl c.in_ok-put_one.ensures.ok c.put_one.ensures.live in
    let h2 = one_put _ _ _ _ _ _ _ _ _ h1 refl c.in_ok-put_one-2.ensures.ok c.put_one-2.ensures.live in
    behind_refused c.put_tail-then-magnitude-lt8.result _ _ _ _ _ _ _ 2 c.args.magnitude c.args.negative c.args.signed h2 (exponent_is _ 2 c.if-magnitude-lt4.false c.if-magnitude-lt8.true (omega arith)) c.put_tail-then-magnitude-lt8.ensures.err

pub returns-in_err-put_one-3-clause-err : goal.returns-in_err-put_one-3-clause-err
returns-in_err-put_one-3-clause-err c =
    let h0 = no_ones_put _ _ _ c.requires.live in
    let h1 = one_put _ _ _ _ _ _ _ _ _ h0 refl c.in_ok-put_one.ensures.ok c.put_one.ensures.live in
    let h2 = one_put _ _ _ _ _ _ _ _ _ h1 refl c.in_ok-put_one-2.ensures.ok c.put_one-2.ensures.live in
    on_err _ (behind_stopped _ _ _ _ _ _ _ 2 c.args.magnitude c.args.negative c.args.signed h2 (exponent_more _ 2 (omega arith) c.if-magnitude-lt8.false) c.in_err-put_one-3.ensures.err)

pub returns-then-magnitude-lt16-clause-ok : goal.returns-then-magnitude-lt16-clause-ok
returns-then-magnitude-lt16-clause-ok c =
    let h0 = no_ones_put _ _ _ c.requires.live in
    let h1 = one_put _ _ _ _ _ _ _ _ _ h0 refl c.in_ok-put_one.ensures.ok c.put_one.ensures.live in
    let h2 = one_put _ _ _ _ _ _ _ _ _ h1 refl c.in_ok-put_one-2.ensures.ok c.put_one-2.ensures.live in
    let h3 = one_put _ _ _ _ _ _ _ _ _ h2 refl c.in_ok-put_one-3.ensures.ok c.put_one-3.ensures.live in
    behind_put c.put_tail-then-magnitude-lt16.result _ _ _ _ _ _ _ 3 c.args.magnitude c.args.negative c.args.signed h3 (exponent_is _ 3 c.if-magnitude-lt8.false c.if-magnitude-lt16.true (omega arith)) c.put_tail-then-magnitude-lt16.ensures.ok

pub returns-then-magnitude-lt16-clause-err : goal.returns-then-magnitude-lt16-clause-err
returns-then-magnitude-lt16-clause-err c =
    let h0 = no_ones_put _ _ _ c.requires.live in
    let h1 = one_put _ _ _ _ _ _ _ _ _ h0 refl c.in_ok-put_one.ensures.ok c.put_one.ensures.live in
    let h2 = one_put _ _ _ _ _ _ _ _ _ h1 refl c.in_ok-put_one-2.ensures.ok c.put_one-2.ensures.live in
    let h3 = one_put _ _ _ _ _ _ _ _ _ h2 refl c.in_ok-put_one-3.ensures.ok c.put_one-3.ensures.live in
    behind_refused c.put_tail-then-magnitude-lt16.result _ _ _ _ _ _ _ 3 c.args.magnitude c.args.negative c.args.signed h3 (exponent_is _ 3 c.if-magnitude-lt8.false c.if-magnitude-lt16.true (omega arith)) c.put_tail-then-magnitude-lt16.ensures.err

pub returns-in_err-put_one-4-clause-err : goal.returns-in_err-put_one-4-clause-err
returns-in_err-put_one-4-clause-err c =
    let h0 = no_ones_put _ _ _ c.requires.live in
    let h1 = one_put _ _ _ _ _ _ _ _ _ h0 refl c.in_ok-put_one.ensures.ok c.put_one.ensures.live in
    let h2 = one_put _ _ _ _ _ _ _ _ _ h1 refl c.in_ok-put_one-2.ensures.ok c.put_one-2.ensures.live in
    let h3 = one_put _ _ _ _ _ _ _ _ _ h2 refl c.in_ok-put_one-3.ensures.ok c.put_one-3.ensures.live in
    on_err _ (behind_stopped _ _ _ _ _ _ _ 3 c.args.magnitude c.args.negative c.args.signed h3 (exponent_more _ 3 (omega arith) c.if-magnitude-lt16.false) c.in_err-put_one-4.ensures.err)

pub returns-then-magnitude-lt32-clause-ok : goal.returns-then-magnitude-lt32-clause-ok
returns-then-magnitude-lt32-clause-ok c =
    let h0 = no_ones_put _ _ _ c.requires.live in
    let h1 = one_put _ _ _ _ _ _ _ _ _ h0 refl c.in_ok-put_one.ensures.ok c.put_one.ensures.live in
    let h2 = one_put _ _ _ _ _ _ _ _ _ h1 refl c.in_ok-put_one-2.ensures.ok c.put_one-2.ensures.live in
    let h3 = one_put _ _ _ _ _ _ _ _ _ h2 refl c.in_ok-put_one-3.ensures.ok c.put_one-3.ensures.live in
    let h4 = one_put _ _ _ _ _ _ _ _ _ h3 refl c.in_ok-put_one-4.ensures.ok c.put_one-4.ensures.live in
    behind_put c.put_tail-then-magnitude-lt32.result _ _ _ _ _ _ _ 4 c.args.magnitude c.args.negative c.args.signed h4 (exponent_is _ 4 c.if-magnitude-lt16.false c.if-magnitude-lt32.true (omega arith)) c.put_tail-then-magnitude-lt32.ensures.ok

pub returns-then-magnitude-lt32-clause-err : goal.returns-then-magnitude-lt32-clause-err
returns-then-magnitude-lt32-clause-err c =
    let h0 = no_ones_put _ _ _ c.requires.live in
    let h1 = one_put _ _ _ _ _ _ _ _ _ h0 refl c.in_ok-put_one.ensures.ok c.put_one.ensures.live in
    let h2 = one_put _ _ _ _ _ _ _ _ _ h1 refl c.in_ok-put_one-2.ensures.ok c.put_one-2.ensures.live in
    let h3 = one_put _ _ _ _ _ _ _ _ _ h2 refl c.in_ok-put_one-3.ensures.ok c.put_one-3.ensures.live in
    let h4 = one_put _ _ _ _ _ _ _ _ _ h3 refl c.in_ok-put_one-4.ensures.ok c.put_one-4.ensures.live in
    behind_refused c.put_tail-then-magnitude-lt32.result _ _ _ _ _ _ _ 4 c.args.magnitude c.args.negative c.args.signed h4 (exponent_is _ 4 c.if-magnitude-lt16.false c.if-magnitude-lt32.true (omega arith)) c.put_tail-then-magnitude-lt32.ensures.err

pub returns-in_err-put_one-5-clause-err : goal.returns-in_err-put_one-5-clause-err
returns-in_err-put_one-5-clause-err c =
    let h0 = no_ones_put _ _ _ c.requires.live in
    let h1 = one_put _ _ _ _ _ _ _ _ _ h0 refl c.in_ok-put_one.ensures.ok c.put_one.ensures.live in
    let h2 = one_put _ _ _ _ _ _ _ _ _ h1 refl c.in_ok-put_one-2.ensures.ok c.put_one-2.ensures.live in
    let h3 = one_put _ _ _ _ _ _ _ _ _ h2 refl c.in_ok-put_one-3.ensures.ok c.put_one-3.ensures.live in
    let h4 = one_put _ _ _ _ _ _ _ _ _ h3 refl c.in_ok-put_one-4.ensures.ok c.put_one-4.ensures.live in
    on_err _ (behind_stopped _ _ _ _ _ _ _ 4 c.args.magnitude c.args.negative c.args.signed h4 (exponent_more _ 4 (omega arith) c.if-magnitude-lt32.false) c.in_err-put_one-5.ensures.err)

pub returns-then-magnitude-lt64-clause-ok : goal.returns-then-magnitude-lt64-clause-ok
returns-then-magnitude-lt64-clause-ok c =
    let h0 = no_ones_put _ _ _ c.requires.live in
    let h1 = one_put _ _ _ _ _ _ _ _ _ h0 refl c.in_ok-put_one.ensures.ok c.put_one.ensures.live in
    let h2 = one_put _ _ _ _ _ _ _ _ _ h1 refl c.in_ok-put_one-2.ensures.ok c.put_one-2.ensures.live in
    let h3 = one_put _ _ _ _ _ _ _ _ _ h2 refl c.in_ok-put_one-3.ensures.ok c.put_one-3.ensures.live in
    let h4 = one_put _ _ _ _ _ _ _ _ _ h3 refl c.in_ok-put_one-4.ensures.ok c.put_one-4.ensures.live in
    let h5 = one_put _ _ _ _ _ _ _ _ _ h4 refl c.in_ok-put_one-5.ensures.ok c.put_one-5.ensures.live in
    behind_put c.put_tail-then-magnitude-lt64.result _ _ _ _ _ _ _ 5 c.args.magnitude c.args.negative c.args.signed h5 (exponent_is _ 5 c.if-magnitude-lt32.false c.if-magnitude-lt64.true (omega arith)) c.put_tail-then-magnitude-lt64.ensures.ok

pub returns-then-magnitude-lt64-clause-err : goal.returns-then-magnitude-lt64-clause-err
returns-then-magnitude-lt64-clause-err c =
    let h0 = no_ones_put _ _ _ c.requires.live in
    let h1 = one_put _ _ _ _ _ _ _ _ _ h0 refl c.in_ok-put_one.ensures.ok c.put_one.ensures.live in
    let h2 = one_put _ _ _ _ _ _ _ _ _ h1 refl c.in_ok-put_one-2.ensures.ok c.put_one-2.ensures.live in
    let h3 = one_put _ _ _ _ _ _ _ _ _ h2 refl c.in_ok-put_one-3.ensures.ok c.put_one-3.ensures.live in
    let h4 = one_put _ _ _ _ _ _ _ _ _ h3 refl c.in_ok-put_one-4.ensures.ok c.put_one-4.ensures.live in
    let h5 = one_put _ _ _ _ _ _ _ _ _ h4 refl c.in_ok-put_one-5.ensures.ok c.put_one-5.ensures.live in
    behind_refused c.put_tail-then-magnitude-lt64.result _ _ _ _ _ _ _ 5 c.args.magnitude c.args.negative c.args.signed h5 (exponent_is _ 5 c.if-magnitude-lt32.false c.if-magnitude-lt64.true (omega arith)) c.put_tail-then-magnitude-lt64.ensures.err

pub returns-in_err-put_one-6-clause-err : goal.returns-in_err-put_one-6-clause-err
returns-in_err-put_one-6-clause-err c =
    let h0 = no_ones_put _ _ _ c.requires.live in
    let h1 = one_put _ _ _ _ _ _ _ _ _ h0 refl c.in_ok-put_one.ensures.ok c.put_one.ensures.live in
    let h2 = one_put _ _ _ _ _ _ _ _ _ h1 refl c.in_ok-put_one-2.ensures.ok c.put_one-2.ensures.live in
    let h3 = one_put _ _ _ _ _ _ _ _ _ h2 refl c.in_ok-put_one-3.ensures.ok c.put_one-3.ensures.live in
    let h4 = one_put _ _ _ _ _ _ _ _ _ h3 refl c.in_ok-put_one-4.ensures.ok c.put_one-4.ensures.live in
    let h5 = one_put _ _ _ _ _ _ _ _ _ h4 refl c.in_ok-put_one-5.ensures.ok c.put_one-5.ensures.live in
    on_err _ (behind_stopped _ _ _ _ _ _ _ 5 c.args.magnitude c.args.negative c.args.signed h5 (exponent_more _ 5 (omega arith) c.if-magnitude-lt64.false) c.in_err-put_one-6.ensures.err)

pub returns-then-magnitude-lt128-clause-ok : goal.returns-then-magnitude-lt128-clause-ok
returns-then-magnitude-lt128-clause-ok c =
    let h0 = no_ones_put _ _ _ c.requires.live in
    let h1 = one_put _ _ _ _ _ _ _ _ _ h0 refl c.in_ok-put_one.ensures.ok c.put_one.ensures.live in
    let h2 = one_put _ _ _ _ _ _ _ _ _ h1 refl c.in_ok-put_one-2.ensures.ok c.put_one-2.ensures.live in
    let h3 = one_put _ _ _ _ _ _ _ _ _ h2 refl c.in_ok-put_one-3.ensures.ok c.put_one-3.ensures.live in
    let h4 = one_put _ _ _ _ _ _ _ _ _ h3 refl c.in_ok-put_one-4.ensures.ok c.put_one-4.ensures.live in
    let h5 = one_put _ _ _ _ _ _ _ _ _ h4 refl c.in_ok-put_one-5.ensures.ok c.put_one-5.ensures.live in
    let h6 = one_put _ _ _ _ _ _ _ _ _ h5 refl c.in_ok-put_one-6.ensures.ok c.put_one-6.ensures.live in
    behind_put c.put_tail-then-magnitude-lt128.result _ _ _ _ _ _ _ 6 c.args.magnitude c.args.negative c.args.signed h6 (exponent_is _ 6 c.if-magnitude-lt64.false c.if-magnitude-lt128.true (omega arith)) c.put_tail-then-magnitude-lt128.ensures.ok

pub returns-then-magnitude-lt128-clause-err : goal.returns-then-magnitude-lt128-clause-err
returns-then-magnitude-lt128-clause-err c =
    let h0 = no_ones_put _ _ _ c.requires.live in
    let h1 = one_put _ _ _ _ _ _ _ _ _ h0 refl c.in_ok-put_one.ensures.ok c.put_one.ensures.live in
    let h2 = one_put _ _ _ _ _ _ _ _ _ h1 refl c.in_ok-put_one-2.ensures.ok c.put_one-2.ensures.live in
    let h3 = one_put _ _ _ _ _ _ _ _ _ h2 refl c.in_ok-put_one-3.ensures.ok c.put_one-3.ensures.live in
    let h4 = one_put _ _ _ _ _ _ _ _ _ h3 refl c.in_ok-put_one-4.ensures.ok c.put_one-4.ensures.live in
    let h5 = one_put _ _ _ _ _ _ _ _ _ h4 refl c.in_ok-put_one-5.ensures.ok c.put_one-5.ensures.live in
    let h6 = one_put _ _ _ _ _ _ _ _ _ h5 refl c.in_ok-put_one-6.ensures.ok c.put_one-6.ensures.live in
    behind_refused c.put_tail-then-magnitude-lt128.result _ _ _ _ _ _ _ 6 c.args.magnitude c.args.negative c.args.signed h6 (exponent_is _ 6 c.if-magnitude-lt64.false c.if-magnitude-lt128.true (omega arith)) c.put_tail-then-magnitude-lt128.ensures.err

pub returns-in_err-put_one-7-clause-err : goal.returns-in_err-put_one-7-clause-err
returns-in_err-put_one-7-clause-err c =
    let h0 = no_ones_put _ _ _ c.requires.live in
    let h1 = one_put _ _ _ _ _ _ _ _ _ h0 refl c.in_ok-put_one.ensures.ok c.put_one.ensures.live in
    let h2 = one_put _ _ _ _ _ _ _ _ _ h1 refl c.in_ok-put_one-2.ensures.ok c.put_one-2.ensures.live in
    let h3 = one_put _ _ _ _ _ _ _ _ _ h2 refl c.in_ok-put_one-3.ensures.ok c.put_one-3.ensures.live in
    let h4 = one_put _ _ _ _ _ _ _ _ _ h3 refl c.in_ok-put_one-4.ensures.ok c.put_one-4.ensures.live in
    let h5 = one_put _ _ _ _ _ _ _ _ _ h4 refl c.in_ok-put_one-5.ensures.ok c.put_one-5.ensures.live in
    let h6 = one_put _ _ _ _ _ _ _ _ _ h5 refl c.in_ok-put_one-6.ensures.ok c.put_one-6.ensures.live in
    on_err _ (behind_stopped _ _ _ _ _ _ _ 6 c.args.magnitude c.args.negative c.args.signed h6 (exponent_more _ 6 (omega arith) c.if-magnitude-lt128.false) c.in_err-put_one-7.ensures.err)

pub returns-then-magnitude-lt256-clause-ok : goal.returns-then-magnitude-lt256-clause-ok
returns-then-magnitude-lt256-clause-ok c =
    let h0 = no_ones_put _ _ _ c.requires.live in
    let h1 = one_put _ _ _ _ _ _ _ _ _ h0 refl c.in_ok-put_one.ensures.ok c.put_one.ensures.live in
    let h2 = one_put _ _ _ _ _ _ _ _ _ h1 refl c.in_ok-put_one-2.ensures.ok c.put_one-2.ensures.live in
    let h3 = one_put _ _ _ _ _ _ _ _ _ h2 refl c.in_ok-put_one-3.ensures.ok c.put_one-3.ensures.live in
    let h4 = one_put _ _ _ _ _ _ _ _ _ h3 refl c.in_ok-put_one-4.ensures.ok c.put_one-4.ensures.live in
    let h5 = one_put _ _ _ _ _ _ _ _ _ h4 refl c.in_ok-put_one-5.ensures.ok c.put_one-5.ensures.live in
    let h6 = one_put _ _ _ _ _ _ _ _ _ h5 refl c.in_ok-put_one-6.ensures.ok c.put_one-6.ensures.live in
    let h7 = one_put _ _ _ _ _ _ _ _ _ h6 refl c.in_ok-put_one-7.ensures.ok c.put_one-7.ensures.live in
    behind_put c.put_tail-then-magnitude-lt256.result _ _ _ _ _ _ _ 7 c.args.magnitude c.args.negative c.args.signed h7 (exponent_is _ 7 c.if-magnitude-lt128.false c.if-magnitude-lt256.true (omega arith)) c.put_tail-then-magnitude-lt256.ensures.ok

pub returns-then-magnitude-lt256-clause-err : goal.returns-then-magnitude-lt256-clause-err
returns-then-magnitude-lt256-clause-err c =
    let h0 = no_ones_put _ _ _ c.requires.live in
    let h1 = one_put _ _ _ _ _ _ _ _ _ h0 refl c.in_ok-put_one.ensures.ok c.put_one.ensures.live in
    let h2 = one_put _ _ _ _ _ _ _ _ _ h1 refl c.in_ok-put_one-2.ensures.ok c.put_one-2.ensures.live in
    let h3 = one_put _ _ _ _ _ _ _ _ _ h2 refl c.in_ok-put_one-3.ensures.ok c.put_one-3.ensures.live in
    let h4 = one_put _ _ _ _ _ _ _ _ _ h3 refl c.in_ok-put_one-4.ensures.ok c.put_one-4.ensures.live in
    let h5 = one_put _ _ _ _ _ _ _ _ _ h4 refl c.in_ok-put_one-5.ensures.ok c.put_one-5.ensures.live in
    let h6 = one_put _ _ _ _ _ _ _ _ _ h5 refl c.in_ok-put_one-6.ensures.ok c.put_one-6.ensures.live in
    let h7 = one_put _ _ _ _ _ _ _ _ _ h6 refl c.in_ok-put_one-7.ensures.ok c.put_one-7.ensures.live in
    behind_refused c.put_tail-then-magnitude-lt256.result _ _ _ _ _ _ _ 7 c.args.magnitude c.args.negative c.args.signed h7 (exponent_is _ 7 c.if-magnitude-lt128.false c.if-magnitude-lt256.true (omega arith)) c.put_tail-then-magnitude-lt256.ensures.err

pub returns-in_err-put_one-8-clause-err : goal.returns-in_err-put_one-8-clause-err
returns-in_err-put_one-8-clause-err c =
    let h0 = no_ones_put _ _ _ c.requires.live in
    let h1 = one_put _ _ _ _ _ _ _ _ _ h0 refl c.in_ok-put_one.ensures.ok c.put_one.ensures.live in
    let h2 = one_put _ _ _ _ _ _ _ _ _ h1 refl c.in_ok-put_one-2.ensures.ok c.put_one-2.ensures.live in
    let h3 = one_put _ _ _ _ _ _ _ _ _ h2 refl c.in_ok-put_one-3.ensures.ok c.put_one-3.ensures.live in
    let h4 = one_put _ _ _ _ _ _ _ _ _ h3 refl c.in_ok-put_one-4.ensures.ok c.put_one-4.ensures.live in
    let h5 = one_put _ _ _ _ _ _ _ _ _ h4 refl c.in_ok-put_one-5.ensures.ok c.put_one-5.ensures.live in
    let h6 = one_put _ _ _ _ _ _ _ _ _ h5 refl c.in_ok-put_one-6.ensures.ok c.put_one-6.ensures.live in
    let h7 = one_put _ _ _ _ _ _ _ _ _ h6 refl c.in_ok-put_one-7.ensures.ok c.put_one-7.ensures.live in
    on_err _ (behind_stopped _ _ _ _ _ _ _ 7 c.args.magnitude c.args.negative c.args.signed h7 (exponent_more _ 7 (omega arith) c.if-magnitude-lt256.false) c.in_err-put_one-8.ensures.err)

pub returns-then-magnitude-lt512-clause-ok : goal.returns-then-magnitude-lt512-clause-ok
returns-then-magnitude-lt512-clause-ok c =
    let h0 = no_ones_put _ _ _ c.requires.live in
    let h1 = one_put _ _ _ _ _ _ _ _ _ h0 refl c.in_ok-put_one.ensures.ok c.put_one.ensures.live in
    let h2 = one_put _ _ _ _ _ _ _ _ _ h1 refl c.in_ok-put_one-2.ensures.ok c.put_one-2.ensures.live in
    let h3 = one_put _ _ _ _ _ _ _ _ _ h2 refl c.in_ok-put_one-3.ensures.ok c.put_one-3.ensures.live in
    let h4 = one_put _ _ _ _ _ _ _ _ _ h3 refl c.in_ok-put_one-4.ensures.ok c.put_one-4.ensures.live in
    let h5 = one_put _ _ _ _ _ _ _ _ _ h4 refl c.in_ok-put_one-5.ensures.ok c.put_one-5.ensures.live in
    let h6 = one_put _ _ _ _ _ _ _ _ _ h5 refl c.in_ok-put_one-6.ensures.ok c.put_one-6.ensures.live in
    let h7 = one_put _ _ _ _ _ _ _ _ _ h6 refl c.in_ok-put_one-7.ensures.ok c.put_one-7.ensures.live in
    let h8 = one_put _ _ _ _ _ _ _ _ _ h7 refl c.in_ok-put_one-8.ensures.ok c.put_one-8.ensures.live in
    behind_put c.put_tail-then-magnitude-lt512.result _ _ _ _ _ _ _ 8 c.args.magnitude c.args.negative c.args.signed h8 (exponent_is _ 8 c.if-magnitude-lt256.false c.if-magnitude-lt512.true (omega arith)) c.put_tail-then-magnitude-lt512.ensures.ok

pub returns-then-magnitude-lt512-clause-err : goal.returns-then-magnitude-lt512-clause-err
returns-then-magnitude-lt512-clause-err c =
    let h0 = no_ones_put _ _ _ c.requires.live in
    let h1 = one_put _ _ _ _ _ _ _ _ _ h0 refl c.in_ok-put_one.ensures.ok c.put_one.ensures.live in
    let h2 = one_put _ _ _ _ _ _ _ _ _ h1 refl c.in_ok-put_one-2.ensures.ok c.put_one-2.ensures.live in
    let h3 = one_put _ _ _ _ _ _ _ _ _ h2 refl c.in_ok-put_one-3.ensures.ok c.put_one-3.ensures.live in
    let h4 = one_put _ _ _ _ _ _ _ _ _ h3 refl c.in_ok-put_one-4.ensures.ok c.put_one-4.ensures.live in
    let h5 = one_put _ _ _ _ _ _ _ _ _ h4 refl c.in_ok-put_one-5.ensures.ok c.put_one-5.ensures.live in
    let h6 = one_put _ _ _ _ _ _ _ _ _ h5 refl c.in_ok-put_one-6.ensures.ok c.put_one-6.ensures.live in
    let h7 = one_put _ _ _ _ _ _ _ _ _ h6 refl c.in_ok-put_one-7.ensures.ok c.put_one-7.ensures.live in
    let h8 = one_put _ _ _ _ _ _ _ _ _ h7 refl c.in_ok-put_one-8.ensures.ok c.put_one-8.ensures.live in
    behind_refused c.put_tail-then-magnitude-lt512.result _ _ _ _ _ _ _ 8 c.args.magnitude c.args.negative c.args.signed h8 (exponent_is _ 8 c.if-magnitude-lt256.false c.if-magnitude-lt512.true (omega arith)) c.put_tail-then-magnitude-lt512.ensures.err

pub returns-in_err-put_one-9-clause-err : goal.returns-in_err-put_one-9-clause-err
returns-in_err-put_one-9-clause-err c =
    let h0 = no_ones_put _ _ _ c.requires.live in
    let h1 = one_put _ _ _ _ _ _ _ _ _ h0 refl c.in_ok-put_one.ensures.ok c.put_one.ensures.live in
    let h2 = one_put _ _ _ _ _ _ _ _ _ h1 refl c.in_ok-put_one-2.ensures.ok c.put_one-2.ensures.live in
    let h3 = one_put _ _ _ _ _ _ _ _ _ h2 refl c.in_ok-put_one-3.ensures.ok c.put_one-3.ensures.live in
    let h4 = one_put _ _ _ _ _ _ _ _ _ h3 refl c.in_ok-put_one-4.ensures.ok c.put_one-4.ensures.live in
    let h5 = one_put _ _ _ _ _ _ _ _ _ h4 refl c.in_ok-put_one-5.ensures.ok c.put_one-5.ensures.live in
    let h6 = one_put _ _ _ _ _ _ _ _ _ h5 refl c.in_ok-put_one-6.ensures.ok c.put_one-6.ensures.live in
    let h7 = one_put _ _ _ _ _ _ _ _ _ h6 refl c.in_ok-put_one-7.ensures.ok c.put_one-7.ensures.live in
    let h8 = one_put _ _ _ _ _ _ _ _ _ h7 refl c.in_ok-put_one-8.ensures.ok c.put_one-8.ensures.live in
    on_err _ (behind_stopped _ _ _ _ _ _ _ 8 c.args.magnitude c.args.negative c.args.signed h8 (exponent_more _ 8 (omega arith) c.if-magnitude-lt512.false) c.in_err-put_one-9.ensures.err)

pub returns-then-magnitude-lt1024-clause-ok : goal.returns-then-magnitude-lt1024-clause-ok
returns-then-magnitude-lt1024-clause-ok c =
    let h0 = no_ones_put _ _ _ c.requires.live in
    let h1 = one_put _ _ _ _ _ _ _ _ _ h0 refl c.in_ok-put_one.ensures.ok c.put_one.ensures.live in
    let h2 = one_put _ _ _ _ _ _ _ _ _ h1 refl c.in_ok-put_one-2.ensures.ok c.put_one-2.ensures.live in
    let h3 = one_put _ _ _ _ _ _ _ _ _ h2 refl c.in_ok-put_one-3.ensures.ok c.put_one-3.ensures.live in
    let h4 = one_put _ _ _ _ _ _ _ _ _ h3 refl c.in_ok-put_one-4.ensures.ok c.put_one-4.ensures.live in
    let h5 = one_put _ _ _ _ _ _ _ _ _ h4 refl c.in_ok-put_one-5.ensures.ok c.put_one-5.ensures.live in
    let h6 = one_put _ _ _ _ _ _ _ _ _ h5 refl c.in_ok-put_one-6.ensures.ok c.put_one-6.ensures.live in
    let h7 = one_put _ _ _ _ _ _ _ _ _ h6 refl c.in_ok-put_one-7.ensures.ok c.put_one-7.ensures.live in
    let h8 = one_put _ _ _ _ _ _ _ _ _ h7 refl c.in_ok-put_one-8.ensures.ok c.put_one-8.ensures.live in
    let h9 = one_put _ _ _ _ _ _ _ _ _ h8 refl c.in_ok-put_one-9.ensures.ok c.put_one-9.ensures.live in
    behind_put c.put_tail-then-magnitude-lt1024.result _ _ _ _ _ _ _ 9 c.args.magnitude c.args.negative c.args.signed h9 (exponent_is _ 9 c.if-magnitude-lt512.false c.if-magnitude-lt1024.true (omega arith)) c.put_tail-then-magnitude-lt1024.ensures.ok

pub returns-then-magnitude-lt1024-clause-err : goal.returns-then-magnitude-lt1024-clause-err
returns-then-magnitude-lt1024-clause-err c =
    let h0 = no_ones_put _ _ _ c.requires.live in
    let h1 = one_put _ _ _ _ _ _ _ _ _ h0 refl c.in_ok-put_one.ensures.ok c.put_one.ensures.live in
    let h2 = one_put _ _ _ _ _ _ _ _ _ h1 refl c.in_ok-put_one-2.ensures.ok c.put_one-2.ensures.live in
    let h3 = one_put _ _ _ _ _ _ _ _ _ h2 refl c.in_ok-put_one-3.ensures.ok c.put_one-3.ensures.live in
    let h4 = one_put _ _ _ _ _ _ _ _ _ h3 refl c.in_ok-put_one-4.ensures.ok c.put_one-4.ensures.live in
    let h5 = one_put _ _ _ _ _ _ _ _ _ h4 refl c.in_ok-put_one-5.ensures.ok c.put_one-5.ensures.live in
    let h6 = one_put _ _ _ _ _ _ _ _ _ h5 refl c.in_ok-put_one-6.ensures.ok c.put_one-6.ensures.live in
    let h7 = one_put _ _ _ _ _ _ _ _ _ h6 refl c.in_ok-put_one-7.ensures.ok c.put_one-7.ensures.live in
    let h8 = one_put _ _ _ _ _ _ _ _ _ h7 refl c.in_ok-put_one-8.ensures.ok c.put_one-8.ensures.live in
    let h9 = one_put _ _ _ _ _ _ _ _ _ h8 refl c.in_ok-put_one-9.ensures.ok c.put_one-9.ensures.live in
    behind_refused c.put_tail-then-magnitude-lt1024.result _ _ _ _ _ _ _ 9 c.args.magnitude c.args.negative c.args.signed h9 (exponent_is _ 9 c.if-magnitude-lt512.false c.if-magnitude-lt1024.true (omega arith)) c.put_tail-then-magnitude-lt1024.ensures.err

pub returns-in_err-put_one-10-clause-err : goal.returns-in_err-put_one-10-clause-err
returns-in_err-put_one-10-clause-err c =
    let h0 = no_ones_put _ _ _ c.requires.live in
    let h1 = one_put _ _ _ _ _ _ _ _ _ h0 refl c.in_ok-put_one.ensures.ok c.put_one.ensures.live in
    let h2 = one_put _ _ _ _ _ _ _ _ _ h1 refl c.in_ok-put_one-2.ensures.ok c.put_one-2.ensures.live in
    let h3 = one_put _ _ _ _ _ _ _ _ _ h2 refl c.in_ok-put_one-3.ensures.ok c.put_one-3.ensures.live in
    let h4 = one_put _ _ _ _ _ _ _ _ _ h3 refl c.in_ok-put_one-4.ensures.ok c.put_one-4.ensures.live in
    let h5 = one_put _ _ _ _ _ _ _ _ _ h4 refl c.in_ok-put_one-5.ensures.ok c.put_one-5.ensures.live in
    let h6 = one_put _ _ _ _ _ _ _ _ _ h5 refl c.in_ok-put_one-6.ensures.ok c.put_one-6.ensures.live in
    let h7 = one_put _ _ _ _ _ _ _ _ _ h6 refl c.in_ok-put_one-7.ensures.ok c.put_one-7.ensures.live in
    let h8 = one_put _ _ _ _ _ _ _ _ _ h7 refl c.in_ok-put_one-8.ensures.ok c.put_one-8.ensures.live in
    let h9 = one_put _ _ _ _ _ _ _ _ _ h8 refl c.in_ok-put_one-9.ensures.ok c.put_one-9.ensures.live in
    on_err _ (behind_stopped _ _ _ _ _ _ _ 9 c.args.magnitude c.args.negative c.args.signed h9 (exponent_more _ 9 (omega arith) c.if-magnitude-lt1024.false) c.in_err-put_one-10.ensures.err)

pub returns-then-magnitude-lt2048-clause-ok : goal.returns-then-magnitude-lt2048-clause-ok
returns-then-magnitude-lt2048-clause-ok c =
    let h0 = no_ones_put _ _ _ c.requires.live in
    let h1 = one_put _ _ _ _ _ _ _ _ _ h0 refl c.in_ok-put_one.ensures.ok c.put_one.ensures.live in
    let h2 = one_put _ _ _ _ _ _ _ _ _ h1 refl c.in_ok-put_one-2.ensures.ok c.put_one-2.ensures.live in
    let h3 = one_put _ _ _ _ _ _ _ _ _ h2 refl c.in_ok-put_one-3.ensures.ok c.put_one-3.ensures.live in
    let h4 = one_put _ _ _ _ _ _ _ _ _ h3 refl c.in_ok-put_one-4.ensures.ok c.put_one-4.ensures.live in
    let h5 = one_put _ _ _ _ _ _ _ _ _ h4 refl c.in_ok-put_one-5.ensures.ok c.put_one-5.ensures.live in
    let h6 = one_put _ _ _ _ _ _ _ _ _ h5 refl c.in_ok-put_one-6.ensures.ok c.put_one-6.ensures.live in
    let h7 = one_put _ _ _ _ _ _ _ _ _ h6 refl c.in_ok-put_one-7.ensures.ok c.put_one-7.ensures.live in
    let h8 = one_put _ _ _ _ _ _ _ _ _ h7 refl c.in_ok-put_one-8.ensures.ok c.put_one-8.ensures.live in
    let h9 = one_put _ _ _ _ _ _ _ _ _ h8 refl c.in_ok-put_one-9.ensures.ok c.put_one-9.ensures.live in
    let h10 = one_put _ _ _ _ _ _ _ _ _ h9 refl c.in_ok-put_one-10.ensures.ok c.put_one-10.ensures.live in
    behind_put c.put_tail-then-magnitude-lt2048.result _ _ _ _ _ _ _ 10 c.args.magnitude c.args.negative c.args.signed h10 (exponent_is _ 10 c.if-magnitude-lt1024.false c.if-magnitude-lt2048.true (omega arith)) c.put_tail-then-magnitude-lt2048.ensures.ok

pub returns-then-magnitude-lt2048-clause-err : goal.returns-then-magnitude-lt2048-clause-err
returns-then-magnitude-lt2048-clause-err c =
    let h0 = no_ones_put _ _ _ c.requires.live in
    let h1 = one_put _ _ _ _ _ _ _ _ _ h0 refl c.in_ok-put_one.ensures.ok c.put_one.ensures.live in
    let h2 = one_put _ _ _ _ _ _ _ _ _ h1 refl c.in_ok-put_one-2.ensures.ok c.put_one-2.ensures.live in
    let h3 = one_put _ _ _ _ _ _ _ _ _ h2 refl c.in_ok-put_one-3.ensures.ok c.put_one-3.ensures.live in
    let h4 = one_put _ _ _ _ _ _ _ _ _ h3 refl c.in_ok-put_one-4.ensures.ok c.put_one-4.ensures.live in
    let h5 = one_put _ _ _ _ _ _ _ _ _ h4 refl c.in_ok-put_one-5.ensures.ok c.put_one-5.ensures.live in
    let h6 = one_put _ _ _ _ _ _ _ _ _ h5 refl c.in_ok-put_one-6.ensures.ok c.put_one-6.ensures.live in
    let h7 = one_put _ _ _ _ _ _ _ _ _ h6 refl c.in_ok-put_one-7.ensures.ok c.put_one-7.ensures.live in
    let h8 = one_put _ _ _ _ _ _ _ _ _ h7 refl c.in_ok-put_one-8.ensures.ok c.put_one-8.ensures.live in
    let h9 = one_put _ _ _ _ _ _ _ _ _ h8 refl c.in_ok-put_one-9.ensures.ok c.put_one-9.ensures.live in
    let h10 = one_put _ _ _ _ _ _ _ _ _ h9 refl c.in_ok-put_one-10.ensures.ok c.put_one-10.ensures.live in
    behind_refused c.put_tail-then-magnitude-lt2048.result _ _ _ _ _ _ _ 10 c.args.magnitude c.args.negative c.args.signed h10 (exponent_is _ 10 c.if-magnitude-lt1024.false c.if-magnitude-lt2048.true (omega arith)) c.put_tail-then-magnitude-lt2048.ensures.err

pub returns-in_err-put_one-11-clause-err : goal.returns-in_err-put_one-11-clause-err
returns-in_err-put_one-11-clause-err c =
    let h0 = no_ones_put _ _ _ c.requires.live in
    let h1 = one_put _ _ _ _ _ _ _ _ _ h0 refl c.in_ok-put_one.ensures.ok c.put_one.ensures.live in
    let h2 = one_put _ _ _ _ _ _ _ _ _ h1 refl c.in_ok-put_one-2.ensures.ok c.put_one-2.ensures.live in
    let h3 = one_put _ _ _ _ _ _ _ _ _ h2 refl c.in_ok-put_one-3.ensures.ok c.put_one-3.ensures.live in
    let h4 = one_put _ _ _ _ _ _ _ _ _ h3 refl c.in_ok-put_one-4.ensures.ok c.put_one-4.ensures.live in
    let h5 = one_put _ _ _ _ _ _ _ _ _ h4 refl c.in_ok-put_one-5.ensures.ok c.put_one-5.ensures.live in
    let h6 = one_put _ _ _ _ _ _ _ _ _ h5 refl c.in_ok-put_one-6.ensures.ok c.put_one-6.ensures.live in
    let h7 = one_put _ _ _ _ _ _ _ _ _ h6 refl c.in_ok-put_one-7.ensures.ok c.put_one-7.ensures.live in
    let h8 = one_put _ _ _ _ _ _ _ _ _ h7 refl c.in_ok-put_one-8.ensures.ok c.put_one-8.ensures.live in
    let h9 = one_put _ _ _ _ _ _ _ _ _ h8 refl c.in_ok-put_one-9.ensures.ok c.put_one-9.ensures.live in
    let h10 = one_put _ _ _ _ _ _ _ _ _ h9 refl c.in_ok-put_one-10.ensures.ok c.put_one-10.ensures.live in
    on_err _ (behind_stopped _ _ _ _ _ _ _ 10 c.args.magnitude c.args.negative c.args.signed h10 (exponent_more _ 10 (omega arith) c.if-magnitude-lt2048.false) c.in_err-put_one-11.ensures.err)

pub returns-then-magnitude-lt4096-clause-ok : goal.returns-then-magnitude-lt4096-clause-ok
returns-then-magnitude-lt4096-clause-ok c =
    let h0 = no_ones_put _ _ _ c.requires.live in
    let h1 = one_put _ _ _ _ _ _ _ _ _ h0 refl c.in_ok-put_one.ensures.ok c.put_one.ensures.live in
    let h2 = one_put _ _ _ _ _ _ _ _ _ h1 refl c.in_ok-put_one-2.ensures.ok c.put_one-2.ensures.live in
    let h3 = one_put _ _ _ _ _ _ _ _ _ h2 refl c.in_ok-put_one-3.ensures.ok c.put_one-3.ensures.live in
    let h4 = one_put _ _ _ _ _ _ _ _ _ h3 refl c.in_ok-put_one-4.ensures.ok c.put_one-4.ensures.live in
    let h5 = one_put _ _ _ _ _ _ _ _ _ h4 refl c.in_ok-put_one-5.ensures.ok c.put_one-5.ensures.live in
    let h6 = one_put _ _ _ _ _ _ _ _ _ h5 refl c.in_ok-put_one-6.ensures.ok c.put_one-6.ensures.live in
    let h7 = one_put _ _ _ _ _ _ _ _ _ h6 refl c.in_ok-put_one-7.ensures.ok c.put_one-7.ensures.live in
    let h8 = one_put _ _ _ _ _ _ _ _ _ h7 refl c.in_ok-put_one-8.ensures.ok c.put_one-8.ensures.live in
    let h9 = one_put _ _ _ _ _ _ _ _ _ h8 refl c.in_ok-put_one-9.ensures.ok c.put_one-9.ensures.live in
    let h10 = one_put _ _ _ _ _ _ _ _ _ h9 refl c.in_ok-put_one-10.ensures.ok c.put_one-10.ensures.live in
    let h11 = one_put _ _ _ _ _ _ _ _ _ h10 refl c.in_ok-put_one-11.ensures.ok c.put_one-11.ensures.live in
    behind_put c.put_tail-then-magnitude-lt4096.result _ _ _ _ _ _ _ 11 c.args.magnitude c.args.negative c.args.signed h11 (exponent_is _ 11 c.if-magnitude-lt2048.false c.if-magnitude-lt4096.true (omega arith)) c.put_tail-then-magnitude-lt4096.ensures.ok

pub returns-then-magnitude-lt4096-clause-err : goal.returns-then-magnitude-lt4096-clause-err
returns-then-magnitude-lt4096-clause-err c =
    let h0 = no_ones_put _ _ _ c.requires.live in
    let h1 = one_put _ _ _ _ _ _ _ _ _ h0 refl c.in_ok-put_one.ensures.ok c.put_one.ensures.live in
    let h2 = one_put _ _ _ _ _ _ _ _ _ h1 refl c.in_ok-put_one-2.ensures.ok c.put_one-2.ensures.live in
    let h3 = one_put _ _ _ _ _ _ _ _ _ h2 refl c.in_ok-put_one-3.ensures.ok c.put_one-3.ensures.live in
    let h4 = one_put _ _ _ _ _ _ _ _ _ h3 refl c.in_ok-put_one-4.ensures.ok c.put_one-4.ensures.live in
    let h5 = one_put _ _ _ _ _ _ _ _ _ h4 refl c.in_ok-put_one-5.ensures.ok c.put_one-5.ensures.live in
    let h6 = one_put _ _ _ _ _ _ _ _ _ h5 refl c.in_ok-put_one-6.ensures.ok c.put_one-6.ensures.live in
    let h7 = one_put _ _ _ _ _ _ _ _ _ h6 refl c.in_ok-put_one-7.ensures.ok c.put_one-7.ensures.live in
    let h8 = one_put _ _ _ _ _ _ _ _ _ h7 refl c.in_ok-put_one-8.ensures.ok c.put_one-8.ensures.live in
    let h9 = one_put _ _ _ _ _ _ _ _ _ h8 refl c.in_ok-put_one-9.ensures.ok c.put_one-9.ensures.live in
    let h10 = one_put _ _ _ _ _ _ _ _ _ h9 refl c.in_ok-put_one-10.ensures.ok c.put_one-10.ensures.live in
    let h11 = one_put _ _ _ _ _ _ _ _ _ h10 refl c.in_ok-put_one-11.ensures.ok c.put_one-11.ensures.live in
    behind_refused c.put_tail-then-magnitude-lt4096.result _ _ _ _ _ _ _ 11 c.args.magnitude c.args.negative c.args.signed h11 (exponent_is _ 11 c.if-magnitude-lt2048.false c.if-magnitude-lt4096.true (omega arith)) c.put_tail-then-magnitude-lt4096.ensures.err

pub returns-in_err-put_one-12-clause-err : goal.returns-in_err-put_one-12-clause-err
returns-in_err-put_one-12-clause-err c =
    let h0 = no_ones_put _ _ _ c.requires.live in
    let h1 = one_put _ _ _ _ _ _ _ _ _ h0 refl c.in_ok-put_one.ensures.ok c.put_one.ensures.live in
    let h2 = one_put _ _ _ _ _ _ _ _ _ h1 refl c.in_ok-put_one-2.ensures.ok c.put_one-2.ensures.live in
    let h3 = one_put _ _ _ _ _ _ _ _ _ h2 refl c.in_ok-put_one-3.ensures.ok c.put_one-3.ensures.live in
    let h4 = one_put _ _ _ _ _ _ _ _ _ h3 refl c.in_ok-put_one-4.ensures.ok c.put_one-4.ensures.live in
    let h5 = one_put _ _ _ _ _ _ _ _ _ h4 refl c.in_ok-put_one-5.ensures.ok c.put_one-5.ensures.live in
    let h6 = one_put _ _ _ _ _ _ _ _ _ h5 refl c.in_ok-put_one-6.ensures.ok c.put_one-6.ensures.live in
    let h7 = one_put _ _ _ _ _ _ _ _ _ h6 refl c.in_ok-put_one-7.ensures.ok c.put_one-7.ensures.live in
    let h8 = one_put _ _ _ _ _ _ _ _ _ h7 refl c.in_ok-put_one-8.ensures.ok c.put_one-8.ensures.live in
    let h9 = one_put _ _ _ _ _ _ _ _ _ h8 refl c.in_ok-put_one-9.ensures.ok c.put_one-9.ensures.live in
    let h10 = one_put _ _ _ _ _ _ _ _ _ h9 refl c.in_ok-put_one-10.ensures.ok c.put_one-10.ensures.live in
    let h11 = one_put _ _ _ _ _ _ _ _ _ h10 refl c.in_ok-put_one-11.ensures.ok c.put_one-11.ensures.live in
    on_err _ (behind_stopped _ _ _ _ _ _ _ 11 c.args.magnitude c.args.negative c.args.signed h11 (exponent_more _ 11 (omega arith) c.if-magnitude-lt4096.false) c.in_err-put_one-12.ensures.err)

pub loop-count-init : goal.loop-count-init
loop-count-init c =
    let h0 = no_ones_put _ _ _ c.requires.live in
    let h1 = one_put _ _ _ _ _ _ _ _ _ h0 refl c.in_ok-put_one.ensures.ok c.put_one.ensures.live in
    let h2 = one_put _ _ _ _ _ _ _ _ _ h1 refl c.in_ok-put_one-2.ensures.ok c.put_one-2.ensures.live in
    let h3 = one_put _ _ _ _ _ _ _ _ _ h2 refl c.in_ok-put_one-3.ensures.ok c.put_one-3.ensures.live in
    let h4 = one_put _ _ _ _ _ _ _ _ _ h3 refl c.in_ok-put_one-4.ensures.ok c.put_one-4.ensures.live in
    let h5 = one_put _ _ _ _ _ _ _ _ _ h4 refl c.in_ok-put_one-5.ensures.ok c.put_one-5.ensures.live in
    let h6 = one_put _ _ _ _ _ _ _ _ _ h5 refl c.in_ok-put_one-6.ensures.ok c.put_one-6.ensures.live in
    let h7 = one_put _ _ _ _ _ _ _ _ _ h6 refl c.in_ok-put_one-7.ensures.ok c.put_one-7.ensures.live in
    let h8 = one_put _ _ _ _ _ _ _ _ _ h7 refl c.in_ok-put_one-8.ensures.ok c.put_one-8.ensures.live in
    let h9 = one_put _ _ _ _ _ _ _ _ _ h8 refl c.in_ok-put_one-9.ensures.ok c.put_one-9.ensures.live in
    let h10 = one_put _ _ _ _ _ _ _ _ _ h9 refl c.in_ok-put_one-10.ensures.ok c.put_one-10.ensures.live in
    let h11 = one_put _ _ _ _ _ _ _ _ _ h10 refl c.in_ok-put_one-11.ensures.ok c.put_one-11.ensures.live in
    let h12 = one_put _ _ _ _ _ _ _ _ _ h11 refl c.in_ok-put_one-12.ensures.ok c.put_one-12.ensures.live in
    (h12, c.put_one-12.ensures.window)

pub loop-count-preserved : goal.loop-count-preserved
loop-count-preserved c =
    (one_put _ _ _ _ _ _ _ _ _ c.loop-count.invariant.0 refl c.in_ok-put_one-13.ensures.ok c.put_one-in-loop-count.ensures.live, c.put_one-in-loop-count.ensures.window)

pub returns-in_err-put_one-13-clause-err : goal.returns-in_err-put_one-13-clause-err
returns-in_err-put_one-13-clause-err c =
    on_err _ (behind_stopped _ _ _ _ _ _ _ _ c.args.magnitude c.args.negative c.args.signed c.loop-count.invariant.0 (omega arith) c.in_err-put_one-13.ensures.err)

pub returns-clause-ok : goal.returns-clause-ok
returns-clause-ok c =
    let more : 11 < exponent_of c.args.magnitude = exponent_more _ 11 (omega arith) c.if-magnitude-lt4096.false in
    let all : c.loop-count.count ≡ c.exponent_of-exponent.result = omega (arith, more, c.loop-count.auto.count-end) in
    behind_put c.put_tail-2.result _ _ _ _ _ _ _ _ c.args.magnitude c.args.negative c.args.signed (as_many_put _ _ _ _ _ _ _ all c.loop-count.invariant.0) c.exponent_of-exponent.ensures.exponent c.put_tail-2.ensures.ok

pub returns-clause-err : goal.returns-clause-err
returns-clause-err c =
    let more : 11 < exponent_of c.args.magnitude = exponent_more _ 11 (omega arith) c.if-magnitude-lt4096.false in
    let all : c.loop-count.count ≡ c.exponent_of-exponent.result = omega (arith, more, c.loop-count.auto.count-end) in
    behind_refused c.put_tail-2.result _ _ _ _ _ _ _ _ c.args.magnitude c.args.negative c.args.signed (as_many_put _ _ _ _ _ _ _ all c.loop-count.invariant.0) c.exponent_of-exponent.ensures.exponent c.put_tail-2.ensures.err

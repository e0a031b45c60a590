use Rattle.std.proofs.Common.{◌≡◌, ◌+◌, ◌*◌, ◌^◌, ℤ, Ok, sym, ap, ◌∙◌, rules, arith}
use Rattle.std.proofs.lemmas.Int.{to_z-of_z}
use mir.Val.{SFits}
use mir.Syntax.{w32}
use Rattle.std.proofs.lemmas.Result.{err_from_is_err_and}
use Rattle.flac_frame.specs.Residual.{unfolded}
use Rattle.flac_frame.proofs.ValueLaws.{value_cut, value_short, value_large, value_read}
use Rattle.flac_frame.proofs.residual.value.Goals as goal

pub returns-in_err-quotient : goal.returns-in_err-quotient
returns-in_err-quotient c =
    let p = err_from_is_err_and c.from_residual.result c.from_residual.ensures.1 in
    rw (p.1, p.2) (value_cut c.args.parameter c.args.reader.now c.in_err-quotient.field-0.0 c.in_err-quotient.ensures)

pub returns-in_err-rest : goal.returns-in_err-rest
returns-in_err-rest c =
    let p = err_from_is_err_and c.from_residual-in_err-rest.result c.from_residual-in_err-rest.ensures.1 in
    rw (p.1, p.2) (value_short c.args.parameter c.in_ok-quotient.quotient c.args.reader.now c.unary.new.reader c.in_err-rest.field-0.0 c.in_ok-quotient.ensures c.in_err-rest.ensures.reads)

pub returns-then-number-gt4294967294 : goal.returns-then-number-gt4294967294
returns-then-number-gt4294967294 c =
    let n = c.joined-number.ensures in
    value_large c.args.parameter c.in_ok-quotient.quotient c.in_ok-rest.rest c.args.reader.now c.unary.new.reader c.field.new.reader c.in_ok-quotient.ensures c.in_ok-rest.ensures.reads (omega arith)

pub returns : goal.returns
returns c =
    let n = c.joined-number.ensures in
    let left = c.field.new.reader in
    let x = c.unfolded.result in
    let fits : SFits w32 x = search rules in
    let is : x ≡ unfolded (c.in_ok-quotient.quotient * 2 ^ c.args.parameter + c.in_ok-rest.rest) = c.unfolded.ensures ∙ ap unfolded n in
    rw (to_z-of_z w32 x fits)
    (value_read c.args.parameter c.in_ok-quotient.quotient c.in_ok-rest.rest c.args.reader.now c.unary.new.reader left c.in_ok-quotient.ensures c.in_ok-rest.ensures.reads (omega arith)
    ∙ ap (λ (y : ℤ). Ok (y, left)) (sym is))

use Rattle.std.proofs.Common.{◌<◌, length, take, rules, arith}
use Rattle.std.proofs.lemmas.Result.{err_from_is_err_and}
use mir.Val.{SFits}
use mir.Syntax.{w32}
use Rattle.flac_frame.specs.Reading.{each_at}
use Rattle.flac_frame.specs.Residual.{value_at}
use Rattle.flac_frame.proofs.EachLaws.{goes_on, ends, is_whole, stored_next}
use Rattle.flac_frame.proofs.residual.values.Goals as goal

pub returns-in_err-out : goal.returns-in_err-out
returns-in_err-out c =
    let p = err_from_is_err_and c.from_residual.result c.from_residual.ensures.1 in
    let at = c.loop-place in
    rw (p.1, p.2) (ends (value_at c.args.parameter) (take at.place at.out) (length c.args.out.now) at.place at.reader c.in_err-out.field-0.0 (each_at (value_at c.args.parameter) (length c.args.out.now) c.args.reader.now)
    c.loop-place-test.true c.in_err-out.ensures at.invariant)

pub loop-place-preserved : goal.loop-place-preserved
loop-place-preserved c =
    let at = c.loop-place in
    let x = c.in_ok-out.field-0 in
    let fits : SFits w32 x = search rules in
    let within : at.place < length at.out = omega arith in
    goes_on (value_at c.args.parameter) (take at.place at.out) _ (length c.args.out.now) at.place at.reader c.value.new.reader x (each_at (value_at c.args.parameter) (length c.args.out.now) c.args.reader.now)
    c.loop-place-test.true c.in_ok-out.ensures (stored_next at.out at.place x fits within) at.invariant

pub returns : goal.returns
returns c =
    let at = c.loop-place in
    is_whole (value_at c.args.parameter) at.out (length c.args.out.now) at.place at.reader (each_at (value_at c.args.parameter) (length c.args.out.now) c.args.reader.now)
    c.loop-place-test.false (omega arith) at.invariant

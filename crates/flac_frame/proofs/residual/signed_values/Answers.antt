use Rattle.std.proofs.Common.{◌<◌, length, take, rules, arith}
use Rattle.std.proofs.lemmas.Result.{err_from_is_err_and}
use mir.Val.{SFits}
use mir.Syntax.{w32}
use Rattle.flac_frame.specs.Reading.{each_at, signed_at}
use Rattle.flac_frame.proofs.EachLaws.{goes_on, ends, is_whole, stored_next}
use Rattle.flac_frame.proofs.InsideLaws.{stored_inside, are_inside}
use Rattle.flac_frame.proofs.residual.signed_values.Goals as goal

pub returns-in_err-out-clause-reads : goal.returns-in_err-out-clause-reads
returns-in_err-out-clause-reads c =
    let p = err_from_is_err_and c.from_residual.result c.from_residual.ensures.1 in
    let at = c.loop-place in
    rw (p.1, p.2) (ends (signed_at c.args.count) (take at.place at.out) (length c.args.out.now) at.place at.reader c.in_err-out.field-0.0 (each_at (signed_at c.args.count) (length c.args.out.now) c.args.reader.now)
    c.loop-place-test.true c.in_err-out.ensures.reads at.invariant.read)

pub loop-place-preserved : goal.loop-place-preserved
loop-place-preserved c =
    let at = c.loop-place in
    let x = c.in_ok-out.field-0 in
    let fits : SFits w32 x = search rules in
    let within : at.place < length at.out = omega arith in
    record {
      read = goes_on (signed_at c.args.count) (take at.place at.out) _ (length c.args.out.now) at.place at.reader c.signed.new.reader x (each_at (signed_at c.args.count) (length c.args.out.now) c.args.reader.now)
          c.loop-place-test.true c.in_ok-out.ensures.reads (stored_next at.out at.place x fits within) at.invariant.read;
      inside = stored_inside c.args.count at.place at.out x fits within c.in_ok-out.ensures.inside at.invariant.inside;
    }

pub returns-clause-reads : goal.returns-clause-reads
returns-clause-reads c =
    let at = c.loop-place in
    is_whole (signed_at c.args.count) at.out (length c.args.out.now) at.place at.reader (each_at (signed_at c.args.count) (length c.args.out.now) c.args.reader.now)
    c.loop-place-test.false (omega arith) at.invariant.read

pub returns-clause-inside : goal.returns-clause-inside
returns-clause-inside c =
    let at = c.loop-place in
    are_inside c.args.count at.place at.out (omega arith) at.invariant.inside

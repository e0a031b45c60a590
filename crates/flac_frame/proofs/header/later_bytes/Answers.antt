use Rattle.std.proofs.lemmas.Result.{err_from_is_err_and}
use Rattle.flac_frame.specs.Header.{later_at}
use Rattle.flac_frame.proofs.LaterLaws.{goes_on, ends, is_done}
use Rattle.flac_frame.proofs.header.later_bytes.Goals as goal

pub returns-in_err-later_byte : goal.returns-in_err-later_byte
returns-in_err-later_byte c =
    let p = err_from_is_err_and c.from_residual.result c.from_residual.ensures.1 in
    rw (p.1, p.2) (ends c.args.count c.loop.counter c.loop.reader c.in_err-later_byte.field-0.0 (later_at c.args.count c.args.reader.now) c.loop-test.true c.in_err-later_byte.ensures c.loop.invariant)

pub loop-preserved : goal.loop-preserved
loop-preserved c =
    goes_on c.args.count c.loop.counter c.in_ok-later_byte.field-0 c.loop.reader c.later_byte.new.reader (later_at c.args.count c.args.reader.now) c.loop-test.true c.in_ok-later_byte.ensures c.loop.invariant

pub returns : goal.returns
returns c = is_done c.args.count c.loop.counter c.loop.reader (later_at c.args.count c.args.reader.now) c.loop-test.false c.loop.invariant

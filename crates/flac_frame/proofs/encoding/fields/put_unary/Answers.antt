use Rattle.std.proofs.Common.{◌≡◌, ◌/◌, ◌%◌, arith}
use Rattle.flac_frame.proofs.WritingLaws.{put_none, zeros_on, unary_put, more_than_one}
use Rattle.flac_frame.proofs.encoding.fields.put_unary.Goals as goal

pub loop-init : goal.loop-init
loop-init c = put_none c.args.writer.now

pub loop-preserved : goal.loop-preserved
loop-preserved c = zeros_on c.loop.counter c.args.writer.now c.loop.writer c.put.new.self c.loop.invariant c.in_ok-put.ensures.ok

pub put-requires-2-clause-fits : goal.put-requires-2-clause-fits
put-requires-2-clause-fits c = more_than_one (c.args.number % 32)

pub returns : goal.returns
returns c =
    let end : c.loop.counter ≡ c.args.number / 32 = omega (arith, c.loop.auto.counter-end, c.loop-test.false) in
    unary_put c.args.number c.loop.counter c.args.writer.now c.loop.writer c.put-2.new.self end c.loop.invariant c.in_ok-put-2.ensures.ok

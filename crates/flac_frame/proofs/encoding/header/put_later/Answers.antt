use Rattle.std.proofs.Common.{◌≡◌, ◌-◌, ◌++◌, ap, arith}
use Rattle.flac_frame.specs.Writing.{later_bits}
use Rattle.flac_frame.proofs.WritingLaws.{later_on, later_done}
use Rattle.flac_frame.proofs.encoding.header.put_later.Goals as goal

pub loop-done-init : goal.loop-done-init
loop-done-init c =
    let all : c.args.count - 0 ≡ c.args.count = omega arith in
    ap (λ n. c.args.writer.now ++ later_bits n c.args.number) all

pub loop-done-preserved : goal.loop-done-preserved
loop-done-preserved c =
    let at = c.loop-done in
    later_on c.args.count at.done c.args.number at.writer c.put.new.self (c.args.writer.now ++ later_bits c.args.count c.args.number) c.loop-done-test.true at.invariant c.in_ok-put.ensures.ok

pub returns : goal.returns
returns c =
    let at = c.loop-done in
    later_done c.args.count at.done c.args.number at.writer (c.args.writer.now ++ later_bits c.args.count c.args.number) c.loop-done-test.false at.invariant

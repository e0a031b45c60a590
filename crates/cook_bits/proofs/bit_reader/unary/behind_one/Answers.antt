use Rattle.std.proofs.Common.{◌++◌, arith}
use Rattle.cook_bits.specs.Bits.{low_bits, bits_of}
use Rattle.cook_bits.proofs.UnaryLaws.{nothing_passed, highest_below, finds, passes, fewer, runs_out}
use Rattle.cook_bits.proofs.bit_reader.unary.behind_one.Goals as goal

pub loop-ahead-init : goal.loop-ahead-init
loop-ahead-init c =
    let ahead = c.with_enough-ahead.result in (
      c.with_enough-ahead.ensures.within,
      c.with_enough-ahead.ensures.enough,
      nothing_passed (low_bits c.args.held c.args.word ++ bits_of c.args.rest.now) (low_bits ahead.held ahead.word ++ bits_of ahead.rest.now) c.with_enough-ahead.ensures.same,
    )

pub overflow_sub-ahead-then-next-gt0 : goal.overflow_sub-ahead-then-next-gt0
overflow_sub-ahead-then-next-gt0 c =
    let ahead = c.loop-ahead.ahead in
    omega (arith, highest_below ahead.held ahead.word c.ilog2-highest.result c.loop-ahead.invariant.0 c.ilog2-highest.ensures.power_le)

pub returns-then-next-gt0 : goal.returns-then-next-gt0
returns-then-next-gt0 c =
    let ahead = c.loop-ahead.ahead in
    let found = finds c.loop-ahead.zeros ahead.held ahead.word c.ilog2-highest.result c.saturating_add.result (low_bits c.args.held c.args.word ++ bits_of c.args.rest.now) (bits_of ahead.rest.now)
    c.loop-ahead.invariant.0 c.loop-ahead.invariant.2 c.ilog2-highest.ensures.power_le c.ilog2-highest.ensures.next_power_gt c.saturating_add.ensures in
    record { none = tt; held = found.0; some = found.1 }

pub loop-ahead-smaller : goal.loop-ahead-smaller
loop-ahead-smaller c =
    let ahead = c.loop-ahead.ahead in
    let next = c.filled-ahead.result in
    fewer ahead.held next.held next.word ahead.rest.now next.rest.now c.loop-ahead-test.true c.filled-ahead.ensures.same

pub loop-ahead-preserved : goal.loop-ahead-preserved
loop-ahead-preserved c =
    let ahead = c.loop-ahead.ahead in
    let next = c.filled-ahead.result in (
      c.filled-ahead.ensures.within,
      c.filled-ahead.ensures.enough,
      passes c.loop-ahead.zeros ahead.held ahead.word c.saturating_add-zeros.result next.held next.word (low_bits c.args.held c.args.word ++ bits_of c.args.rest.now) ahead.rest.now next.rest.now
          c.loop-ahead.invariant.0 c.loop-ahead.invariant.2 c.if-next-gt0.false c.saturating_add-zeros.ensures c.filled-ahead.ensures.same,
    )

pub returns : goal.returns
returns c =
    let ahead = c.loop-ahead.ahead in
    record {
      none = runs_out c.loop-ahead.zeros ahead.held ahead.word (low_bits c.args.held c.args.word ++ bits_of c.args.rest.now) ahead.rest.now c.loop-ahead.invariant.2 c.loop-ahead-test.false (c.loop-ahead.invariant.1 (omega arith));
      held = tt;
      some = tt;
    }

use Rattle.std.proofs.Common.{sym, ◌∙◌, arith}
use Rattle.cook_bits.proofs.Plain.{plain_zero, plain_slash_refused, plain_slash_passed, plain_other, plain_end}
use Rattle.cook_bits.proofs.names.are_plain_segments.Goals as goal
use Rattle.cook_bits.proofs.names.are_plain_segments.Goals.{then-byte-ne47, else-byte-ne47+then-is_plain}

pub returns-then-byte-eq0 : goal.returns-then-byte-eq0
returns-then-byte-eq0 c = plain_zero c.loop-byte.seen c.args.bytes.now c.loop-byte.byte-index c.loop-byte-test.true c.if-byte-eq0.true ∙ c.loop-byte.invariant

pub returns-else-is_plain : goal.returns-else-is_plain
returns-else-is_plain c = sym (plain_slash_refused c.loop-byte.seen c.args.bytes.now c.loop-byte.byte-index c.loop-byte-test.true c.if-byte-ne47.false (sym c.is_plain.ensures ∙ c.if-is_plain.false)) ∙ c.loop-byte.invariant

pub loop-byte-preserved : goal.loop-byte-preserved
loop-byte-preserved c =
    elim c.if-byte-ne47.branch [
      | then-byte-ne47 w ↦ rw (w.seen-is, w.with_byte-seen.ensures) (sym (plain_other c.loop-byte.seen c.args.bytes.now c.loop-byte.byte-index c.loop-byte-test.true c.if-byte-eq0.false w.if-byte-ne47.true) ∙ c.loop-byte.invariant)
      | else-byte-ne47+then-is_plain w ↦ rw w.seen-is (sym (plain_slash_passed c.loop-byte.seen c.args.bytes.now c.loop-byte.byte-index c.loop-byte-test.true w.if-byte-ne47.false (sym w.is_plain.ensures ∙ w.if-is_plain.true)) ∙ c.loop-byte.invariant)
    ]

pub returns : goal.returns
returns c = c.is_plain-2.ensures ∙ sym (plain_end c.loop-byte.seen c.args.bytes.now c.loop-byte.byte-index (omega arith)) ∙ c.loop-byte.invariant

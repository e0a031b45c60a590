use Rattle.std.proofs.Common.{◌≡◌, ◌<◌, ◌++◌, ℤ, pos, length, get_or, ap, ◌∙◌, FitsSigned, w32, rules, arith}
use Rattle.std.proofs.lemmas.Int.{to_z-of_z}
use Rattle.std.proofs.lemmas.Result.{IfOk-equal}
use Rattle.cook_bits.specs.Bits.{low_bits}
use Rattle.flac_frame.specs.Spelling.{value_bits_of, values_bits}
use Rattle.flac_frame.proofs.WritingLaws.{put_none, put_on, put_all}
use Rattle.flac_frame.proofs.TailLaws.{no_tail}
use Rattle.flac_frame.proofs.encoding.fields.put_values.Goals as goal

pub loop-place-init : goal.loop-place-init
unfolding values_bits
loop-place-init c = record { bits = no_tail c.args.writer.now ∙ put_none c.args.writer.now; short = omega arith; tail = omega arith }

pub loop-place-preserved : goal.loop-place-preserved
unfolding values_bits
loop-place-preserved c =
    let at = c.loop-place in
    let x = get_or c.args.values.now at.place (pos 0) in
    let fits : FitsSigned w32 x = search rules in
    let kept = to_z-of_z w32 x fits in
    let was = at.writer ++ low_bits at.tail.count at.tail.number in
    let now = c.put_value.new.writer ++ low_bits c.in_ok-tail.tail.count c.in_ok-tail.tail.number in
    let e : now ≡ was ++ value_bits_of c.args.parameter x =
    c.in_ok-tail.ensures.bits ∙ ap (λ (y : ℤ). was ++ value_bits_of c.args.parameter y) kept in
    let within : at.place < length c.args.values.now = omega arith in
    record {
      bits = put_on (value_bits_of c.args.parameter) at.place c.args.values.now c.args.writer.now was now within at.invariant.bits e;
      short = c.in_ok-tail.ensures.short;
      tail = c.in_ok-tail.ensures.tail;
    }

pub returns : goal.returns
unfolding values_bits
returns c =
    let at = c.loop-place in
    let was = at.writer ++ low_bits at.tail.count at.tail.number in
    IfOk-equal c.put.result c.put.new.self _ _ c.put.ensures.ok
    (put_all (value_bits_of c.args.parameter) at.place c.args.values.now c.args.writer.now was (omega arith) at.invariant.bits)

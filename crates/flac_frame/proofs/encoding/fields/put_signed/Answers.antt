use Rattle.std.proofs.Common.{◌≡◌, ◌<◌, ◌++◌, ℤ, pos, length, get_or, ap, ◌∙◌, FitsSigned, w32, rules, arith}
use Rattle.std.proofs.lemmas.Int.{to_z-of_z}
use Rattle.cook_bits.specs.Bits.{low_bits}
use Rattle.flac_frame.specs.Spelling.{signed_field, signed_bits}
use Rattle.flac_frame.proofs.WritingLaws.{put_none, put_on, put_all}
use Rattle.flac_frame.proofs.encoding.fields.put_signed.Goals as goal

pub loop-place-init : goal.loop-place-init
unfolding signed_bits
loop-place-init c = put_none c.args.writer.now

pub loop-place-preserved : goal.loop-place-preserved
unfolding signed_bits
loop-place-preserved c =
    let at = c.loop-place in
    let x = get_or c.args.values.now at.place (pos 0) in
    let fits : FitsSigned w32 x = search rules in
    let kept = to_z-of_z w32 x fits in
    let e : c.put.new.self ≡ at.writer ++ low_bits c.args.count (signed_field c.args.count x) =
    c.in_ok-put.ensures.ok ∙ ap (λ n. at.writer ++ low_bits c.args.count n) (c.signed_field.ensures.number ∙ ap (signed_field c.args.count) kept) in
    let within : at.place < length c.args.values.now = omega arith in
    put_on (λ (y : ℤ). low_bits c.args.count (signed_field c.args.count y)) at.place c.args.values.now c.args.writer.now at.writer c.put.new.self within at.invariant e

pub returns : goal.returns
unfolding signed_bits
returns c =
    let at = c.loop-place in
    put_all (λ (y : ℤ). low_bits c.args.count (signed_field c.args.count y)) at.place c.args.values.now c.args.writer.now at.writer (omega arith) at.invariant

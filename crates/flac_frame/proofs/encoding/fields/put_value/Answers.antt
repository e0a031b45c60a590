use Rattle.std.proofs.Common.{◌≡◌, ◌++◌, ◌/◌, ◌%◌, ◌^◌, ℕ, ap, ◌∙◌, w32, FitsSigned, rules}
use Rattle.std.proofs.lemmas.Int.{to_z-of_z}
use Rattle.cook_bits.specs.Bits.{low_bits}
use Rattle.flac_predict.specs.Rice.{zigzag}
use Rattle.flac_frame.specs.Spelling.{unary_bits, value_bits_of}
use Rattle.flac_frame.proofs.WritingLaws.{value_fits, value_joined}
use Rattle.flac_frame.proofs.TailLaws.{one_field, more_fields}
use Rattle.flac_frame.proofs.encoding.fields.put_value.Goals as goal

pub gathered-requires-clause-fits : goal.gathered-requires-clause-fits
gathered-requires-clause-fits c = value_fits c.args.parameter c.zigzag-number.result c.requires.parameter

pub returns-then-quotient-parameter-clause-bits : goal.returns-then-quotient-parameter-clause-bits
returns-then-quotient-parameter-clause-bits c =
    let fits : FitsSigned w32 c.args.value = search rules in
    let is : c.zigzag-number.result ≡ zigzag c.args.value = c.zigzag-number.ensures ∙ ap zigzag (to_z-of_z w32 c.args.value fits) in
    one_field _ _ (value_bits_of c.args.parameter c.args.value) _ c.in_ok-next.ensures.bits (value_joined c.args.parameter c.zigzag-number.result c.args.value c.requires.parameter is)

pub returns-clause-bits : goal.returns-clause-bits
unfolding value_bits_of
returns-clause-bits c =
    let fits : FitsSigned w32 c.args.value = search rules in
    let is : c.zigzag-number.result ≡ zigzag c.args.value = c.zigzag-number.ensures ∙ ap zigzag (to_z-of_z w32 c.args.value fits) in
    let p = c.args.parameter in
    more_fields c.put_long.new.writer _ _ (value_bits_of p c.args.value) c.in_ok-put_long.ensures (ap (λ (z : ℕ). unary_bits (z / 2 ^ p) ++ low_bits p (z % 2 ^ p)) is)

use Rattle.std.proofs.Common.{sym, refl, ◌∙◌, arith}
use Rattle.range_coder.proofs.Readers.{begins_below, first_fits, second_fits, starts_within}
use Rattle.range_coder.proofs.decoder.Decoder.new.Goals as goal

pub returns-clause-begins : goal.returns-clause-begins
returns-clause-begins c =
    let high = first_fits _ _ c.from.ensures c.split_byte-high.ensures.fits c.if-high.false in
    let low = second_fits _ _ c.from-2.ensures c.split_byte-low.ensures.fits in
    begins_below c.args.bytes.now c.split_byte-high.result.1.now _ c.from.result c.from-2.result _ refl (λ k. let fits = c.type_inv.bytes k in omega (arith, fits)) (c.from.ensures ∙ c.split_byte-high.ensures.byte) c.split_byte-high.ensures.rest (c.from-2.ensures ∙ c.split_byte-low.ensures.byte) c.split_byte-low.ensures.rest (λ last. c.if-high.false (sym c.from.ensures ∙ last)) (starts_within _ _ high low)

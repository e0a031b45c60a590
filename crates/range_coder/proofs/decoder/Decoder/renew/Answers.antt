use Rattle.std.proofs.Common.{◌<◌, ◌∙◌, arith}
use Rattle.range_coder.proofs.Readers.{below_by_byte, goes_within}
use Rattle.range_coder.proofs.decoder.Decoder.renew.Goals as goal

pub returns-then-range-lt256 : goal.returns-then-range-lt256
returns-then-range-lt256 c =
    let fits : c.from.result < 256 = omega (arith, c.from.ensures, c.split_byte-byte.ensures.fits) in
    below_by_byte _ _ _ _ _ _ _ _ c.self.view_is c.requires.some c.requires.inside c.if-range-lt256.true fits (c.from.ensures ∙ c.split_byte-byte.ensures.byte) c.split_byte-byte.ensures.rest

pub returns-else-range-lt256 : goal.returns-else-range-lt256
returns-else-range-lt256 c = goes_within _ _ _ _ c.self.view_is c.if-range-lt256.false

use Rattle.std.proofs.Common.{◌∙◌}
use Rattle.cook_bits.specs.Crc.{highest_first, crc32_high_of}
use Rattle.cook_bits.proofs.Orders.{IsOrder-highest_first}
use Rattle.cook_bits.proofs.Checks.{after_part}
use Rattle.cook_bits.proofs.crc.high.crc32_high.Goals as goal

pub loop-rest-preserved : goal.loop-rest-preserved
unfolding crc32_high_of
loop-rest-preserved c =
    after_part highest_first IsOrder-highest_first 32 0x04C1_1DB7 c.loop-rest.register c.after_eight-register.result c.split_at.result.0.now c.split_at.result.1.now c.loop-rest.rest.now c.split_at.ensures.by_index.0 c.after_eight-register.ensures ∙ c.loop-rest.invariant

pub returns : goal.returns
unfolding crc32_high_of
returns c = c.after_rest.ensures ∙ c.loop-rest.invariant

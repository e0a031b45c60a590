use Rattle.std.proofs.Common.{◌∙◌}
use Rattle.cook_bits.specs.Crc.{lowest_first, ebml_register_after}
use Rattle.cook_bits.proofs.Orders.{IsOrder-lowest_first}
use Rattle.cook_bits.proofs.Checks.{after_part}
use Rattle.cook_bits.proofs.crc.ebml.after_bytes.Goals as goal

pub loop-rest-preserved : goal.loop-rest-preserved
unfolding ebml_register_after
loop-rest-preserved c =
    after_part lowest_first IsOrder-lowest_first 32 0x04C1_1DB7 c.loop-rest.register c.after_eight-register.result c.split_at.result.0.now c.split_at.result.1.now c.loop-rest.rest.now c.split_at.ensures.by_index.0 c.after_eight-register.ensures ∙ c.loop-rest.invariant

pub returns : goal.returns
unfolding ebml_register_after
returns c = c.after_rest.ensures ∙ c.loop-rest.invariant

use Rattle.std.proofs.Common.{arith}
use Rattle.cook_bits.specs.Crc.{crc_of, lowest_first, ebml_register_after}
use Rattle.cook_bits.proofs.Orders.{IsOrder-lowest_first}
use Rattle.cook_bits.proofs.Checks.{so_far_more, so_far_all}
use Rattle.cook_bits.proofs.crc.ebml.after_rest.Goals as goal

pub loop-byte-preserved : goal.loop-byte-preserved
unfolding ebml_register_after
loop-byte-preserved c = so_far_more lowest_first IsOrder-lowest_first 32 0x04C1_1DB7 c.loop-byte.register c.after_byte-register.result c.loop-byte.byte-index c.args.bytes.now (crc_of lowest_first 32 0x04C1_1DB7 c.args.register c.args.bytes.now) (omega arith) c.after_byte-register.ensures c.loop-byte.invariant

pub returns : goal.returns
unfolding ebml_register_after
returns c = so_far_all lowest_first IsOrder-lowest_first 32 0x04C1_1DB7 c.loop-byte.register c.loop-byte.byte-index c.args.bytes.now (crc_of lowest_first 32 0x04C1_1DB7 c.args.register c.args.bytes.now) (omega arith) c.loop-byte.invariant

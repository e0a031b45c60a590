use Rattle.std.proofs.Common.{arith}
use Rattle.cook_bits.specs.Crc.{crc_of, highest_first, crc8_of}
use Rattle.cook_bits.proofs.Orders.{IsOrder-highest_first}
use Rattle.cook_bits.proofs.Checks.{so_far_more, so_far_all}
use Rattle.cook_bits.proofs.crc.flac.crc8.Goals as goal

pub loop-byte-preserved : goal.loop-byte-preserved
unfolding crc8_of
loop-byte-preserved c = so_far_more highest_first IsOrder-highest_first 8 0x07 c.loop-byte.register c.after_byte_8-register.result c.loop-byte.byte-index c.args.bytes.now (crc_of highest_first 8 0x07 0 c.args.bytes.now) (omega arith) c.after_byte_8-register.ensures c.loop-byte.invariant

pub returns : goal.returns
unfolding crc8_of
returns c = so_far_all highest_first IsOrder-highest_first 8 0x07 c.loop-byte.register c.loop-byte.byte-index c.args.bytes.now (crc_of highest_first 8 0x07 0 c.args.bytes.now) (omega arith) c.loop-byte.invariant

use Rattle.std.proofs.Common.{arith}
use Rattle.cook_bits.specs.Crc.{crc_of, highest_first, crc16_of}
use Rattle.cook_bits.proofs.Orders.{IsOrder-highest_first}
use Rattle.cook_bits.proofs.Checks.{so_far_more, so_far_all}
use Rattle.cook_bits.proofs.crc.flac.crc16.Goals as goal

pub loop-byte-preserved : goal.loop-byte-preserved
unfolding crc16_of
loop-byte-preserved c = so_far_more highest_first IsOrder-highest_first 16 0x8005 c.loop-byte.register c.after_byte_16-register.result c.loop-byte.byte-index c.args.bytes.now (crc_of highest_first 16 0x8005 0 c.args.bytes.now) (omega arith) c.after_byte_16-register.ensures c.loop-byte.invariant

pub returns : goal.returns
unfolding crc16_of
returns c = so_far_all highest_first IsOrder-highest_first 16 0x8005 c.loop-byte.register c.loop-byte.byte-index c.args.bytes.now (crc_of highest_first 16 0x8005 0 c.args.bytes.now) (omega arith) c.loop-byte.invariant

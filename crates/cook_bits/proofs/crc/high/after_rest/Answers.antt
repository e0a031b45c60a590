use Rattle.std.proofs.Common.{arith}
use Rattle.cook_bits.specs.Crc.{crc_of, highest_first}
use Rattle.cook_bits.proofs.Orders.{IsOrder-highest_first}
use Rattle.cook_bits.proofs.Checks.{so_far_more, so_far_all}
use Rattle.cook_bits.proofs.crc.high.after_rest.Goals as goal

pub loop-byte-preserved : goal.loop-byte-preserved
loop-byte-preserved c = so_far_more highest_first IsOrder-highest_first 32 0x04C1_1DB7 c.loop-byte.register c.after_byte-register.result c.loop-byte.byte-index c.args.bytes.now (crc_of highest_first 32 0x04C1_1DB7 c.args.register c.args.bytes.now) (omega arith) c.after_byte-register.ensures c.loop-byte.invariant

pub returns : goal.returns
returns c = so_far_all highest_first IsOrder-highest_first 32 0x04C1_1DB7 c.loop-byte.register c.loop-byte.byte-index c.args.bytes.now (crc_of highest_first 32 0x04C1_1DB7 c.args.register c.args.bytes.now) (omega arith) c.loop-byte.invariant

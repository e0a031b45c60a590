use Rattle.std.proofs.Common.{arith}
use Rattle.cook_bits.proofs.Fields.{put_bits, whole_fits}
use Rattle.cook_bits.proofs.bit_writer.BitWriter.put.Goals as goal

pub overflow_cast-joined-2 : goal.overflow_cast-joined-2
overflow_cast-joined-2 c = rw c.from.ensures (omega (arith, whole_fits c.self.inside.held c.self.inside.rest c.args.count c.args.value (omega arith) c.self.invariant.1 c.requires.few c.requires.fits))

pub returns-clause-ok : goal.returns-clause-ok
returns-clause-ok c =
    rw (c.in_ok-extend_from_slice.ensures.items, c.to_be_bytes-whole.ensures, c.from.ensures, ← c.self.view_is)
    (put_bits c.self.inside.bytes.items c.self.inside.held c.self.inside.rest c.args.count c.args.value (omega arith) c.self.invariant.1 c.requires.few c.requires.fits)

use Rattle.std.proofs.Common.{sym, arith}
use Rattle.cook_bits.proofs.Fields.{finished}
use Rattle.cook_bits.proofs.bit_writer.BitWriter.finish.Goals as goal

pub returns-clause-bits : goal.returns-clause-bits
returns-clause-bits c = rw c.from_vec.ensures (finished c.self.inside.bytes.items c.self.inside.held c.self.inside.rest c.args.self (omega arith) c.self.view_is c.requires)

pub returns-clause-bytes : goal.returns-clause-bytes
returns-clause-bytes c =
    let bits = finished c.self.inside.bytes.items c.self.inside.held c.self.inside.rest c.args.self (omega arith) c.self.view_is c.requires in
    rw (c.from_vec.ensures, ← bits, ← c.as_slice.ensures.value) (sym c.are_of_their_bits.ensures)

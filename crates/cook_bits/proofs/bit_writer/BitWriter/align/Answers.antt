use Rattle.std.proofs.Common.{arith}
use Rattle.cook_bits.proofs.Fields.{aligned, padding}
use Rattle.cook_bits.proofs.bit_writer.BitWriter.align.Goals as goal

pub returns-then-held-eq0-clause-ok : goal.returns-then-held-eq0-clause-ok
returns-then-held-eq0-clause-ok c = aligned c.self.inside.bytes.items c.self.inside.held c.self.inside.rest c.args.self.now (omega arith) c.self.view_is c.if-held-eq0.true

pub returns-clause-ok : goal.returns-clause-ok
returns-clause-ok c =
    let zeros = padding c.self.inside.bytes.items c.self.inside.held c.self.inside.rest c.args.self.now (omega arith) c.self.view_is (omega arith) in
    rw (← zeros) c.put.ensures.ok

use Rattle.std.proofs.Common.{◌∙◌, arith}
use Rattle.cook_bits.specs.Bits.{bits_of}
use Rattle.cook_bits.proofs.Fields.{field_taken, field_refused}
use Rattle.cook_bits.proofs.bit_reader.BitReader.take.Goals as goal

pub returns-then-self-count-clause-value : goal.returns-then-self-count-clause-value
returns-then-self-count-clause-value c =
    let ahead = c.with_enough-ahead.result in
    (field_refused ahead.word ahead.held c.args.count ahead.rest.now c.args.self.now (omega arith) (c.with_enough-ahead.ensures.enough (omega arith)) (c.with_enough-ahead.ensures.same ∙ c.self.view_is)).0

pub returns-then-self-count-clause-left : goal.returns-then-self-count-clause-left
returns-then-self-count-clause-left c =
    let ahead = c.with_enough-ahead.result in
    (field_refused ahead.word ahead.held c.args.count ahead.rest.now c.args.self.now (omega arith) (c.with_enough-ahead.ensures.enough (omega arith)) (c.with_enough-ahead.ensures.same ∙ c.self.view_is)).1

pub returns-clause-value : goal.returns-clause-value
returns-clause-value c =
    let ahead = c.with_enough-ahead.result in
    (field_taken ahead.word ahead.held c.args.count (bits_of ahead.rest.now) c.args.self.now (omega arith) (omega arith) (c.with_enough-ahead.ensures.same ∙ c.self.view_is)).0

pub returns-clause-left : goal.returns-clause-left
returns-clause-left c =
    let ahead = c.with_enough-ahead.result in
    (field_taken ahead.word ahead.held c.args.count (bits_of ahead.rest.now) c.args.self.now (omega arith) (omega arith) (c.with_enough-ahead.ensures.same ∙ c.self.view_is)).1

use Rattle.std.proofs.Common.{◌∙◌, arith}
use Rattle.cook_bits.specs.Bits.{low_bits}
use Rattle.cook_bits.proofs.Fields.{held_more, held_all}
use Rattle.cook_bits.proofs.bit_reader.filled.Goals as goal

pub loop-byte-preserved : goal.loop-byte-preserved
loop-byte-preserved c =
    let next = c.split_at.result.0.now in
    let i = c.loop-byte.byte-index in
    (omega arith, held_more c.loop-byte.word c.loop-byte.held c.from.result i next (omega arith) (omega arith) (omega arith) c.from.ensures ∙ c.loop-byte.invariant.1)

pub returns-clause-same : goal.returns-clause-same
returns-clause-same c =
    held_all c.loop-byte.word c.loop-byte.held c.loop-byte.byte-index c.split_at.result.0.now c.split_at.result.1.now c.args.rest.now (low_bits c.args.held c.args.word) (omega arith) c.split_at.ensures.by_index.0 c.loop-byte.invariant.1

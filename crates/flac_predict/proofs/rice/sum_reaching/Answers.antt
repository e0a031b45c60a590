use Rattle.std.proofs.Common.{arith}
use Rattle.flac_predict.proofs.PartLaws.{reached, reaching_more}
use Rattle.flac_predict.proofs.rice.sum_reaching.Goals as goal

pub loop-at-init : goal.loop-at-init
loop-at-init c = record { each = λ k h. absurd (omega arith); small = omega arith }

pub loop-at-preserved : goal.loop-at-preserved
loop-at-preserved c =
    let at = c.loop-at in
    reaching_more c.args.bits c.args.count at.at at.reaching c.saturating_sub-rest.result c.max-reaching.result c.saturating_sub-rest.ensures c.requires.bits (omega arith) c.max-reaching.ensures at.invariant

pub returns : goal.returns
returns c = λ sum k l m.
    reached c.args.bits c.args.count k c.loop-at.reaching sum (c.loop-at.invariant.each k (omega (arith, m))) (omega (arith, l, c.saturating_sub.ensures))

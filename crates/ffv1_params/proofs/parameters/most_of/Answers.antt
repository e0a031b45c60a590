use Rattle.std.proofs.Common.{◌∙◌, arith}
use Rattle.ffv1_params.proofs.MostContexts.{none_yet, more_than, no_more, all_of, most_few}
use Rattle.ffv1_params.proofs.parameters.most_of.Goals as goal
use Rattle.ffv1_params.proofs.parameters.most_of.Goals.{then-contexts-most, else-contexts-most}

pub loop-set-init : goal.loop-set-init
loop-set-init c = none_yet c.args.sets.now

pub loop-set-preserved : goal.loop-set-preserved
loop-set-preserved c = elim c.if-contexts-most.branch [
  | then-contexts-most w ↦ w.most-is ∙ more_than _ _ _ _ _ c.loop-set-test.true c.set-item.is c.loop-set.invariant c.contexts-contexts.ensures.count w.if-contexts-most.true
  | else-contexts-most w ↦ w.most-is ∙ no_more _ _ _ _ _ c.loop-set-test.true c.set-item.is c.loop-set.invariant c.contexts-contexts.ensures.count w.if-contexts-most.false
]

pub returns-clause-most : goal.returns-clause-most
returns-clause-most c = all_of c.args.sets.now c.loop-set.most c.loop-set.set-index (omega arith) c.loop-set.invariant

pub returns-clause-few : goal.returns-clause-few
returns-clause-few c =
    let is = all_of c.args.sets.now c.loop-set.most c.loop-set.set-index (omega arith) c.loop-set.invariant in
    let few = most_few c.args.sets.now c.requires.tell in
    omega (arith, is, few)

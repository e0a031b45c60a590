use Rattle.std.proofs.Common.{◌≡◌, take}
use Rattle.ffv1_params.specs.QuantTables.{most_contexts}
use Rattle.ffv1_params.proofs.parameters.most_of.Given as goal

abbrev pub invariant-loop-set : goal.invariant-loop-set
invariant-loop-set l = l.most ≡ most_contexts (take l.set-index l.sets)

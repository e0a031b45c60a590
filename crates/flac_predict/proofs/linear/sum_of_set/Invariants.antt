use Rattle.std.proofs.Common.{◌-◌}
use Rattle.flac_predict.specs.Bank.{bank_set}
use Rattle.flac_predict.specs.Linear.{linear_residuals}
use Rattle.flac_predict.proofs.PartLaws.{IsSoFar}
use Rattle.flac_predict.proofs.linear.sum_of_set.Given as goal

abbrev pub invariant-loop-done : goal.invariant-loop-done
invariant-loop-done l = IsSoFar (linear_residuals (bank_set l.number) l.samples) l.out l.done l.sum

abbrev pub decreases-loop-done : goal.decreases-loop-done
decreases-loop-done l = l.count - l.done

use Rattle.flac_predict.proofs.PartLaws.{IsReaching}
use Rattle.flac_predict.proofs.rice.sum_reaching.Given as goal

abbrev pub invariant-loop-at : goal.invariant-loop-at
invariant-loop-at l = IsReaching l.bits l.count l.at l.reaching

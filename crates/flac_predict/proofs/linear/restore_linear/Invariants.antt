use Rattle.std.proofs.Common.{take, drop}
use Rattle.flac_predict.specs.Linear.{linear_restored}
use Rattle.flac_predict.proofs.LinearCode.{LinearRestoring}
use Rattle.flac_predict.proofs.linear.restore_linear.Given as goal

abbrev pub invariant-loop-place : goal.invariant-loop-place
invariant-loop-place l =
    LinearRestoring l.set l.bits (linear_restored l.set (take l.set.order l.fn.samples) (drop l.set.order l.fn.samples)) l.samples l.place

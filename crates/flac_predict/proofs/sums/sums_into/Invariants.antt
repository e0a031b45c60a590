use Rattle.std.proofs.Common.{drop}
use Rattle.flac_predict.specs.Fixed.{following}
use Rattle.flac_predict.proofs.RestoreLaws.{Restoring}
use Rattle.flac_predict.proofs.sums.sums_into.Given as goal

abbrev pub invariant-loop-place : goal.invariant-loop-place
invariant-loop-place g l = record {
  restoring : Restoring l.bits (following (g.S.Sums.last l.initial.sums) l.initial.rest) l.initial.rest l.rest l.place (following (g.S.Sums.last l.sums) (drop l.place l.initial.rest));
  fits : g.S.Sums.fits l.sums;
}

use Rattle.std.proofs.Common.{length, refl}
use Rattle.flac_predict.proofs.FixedLaws.{fixed_is_kept, fixed_begins}
use Rattle.flac_predict.proofs.LinearLaws.{linear_is_kept, restored_begins}
use Rattle.flac_predict.proofs.laws.residuals_are_kept.Goals as goal

pub returns-clause-fixed : goal.returns-clause-fixed
returns-clause-fixed c = λ w r. record {
  same = fixed_is_kept (length w) w r refl;
  begins = fixed_begins (length w) w r refl;
}

pub returns-clause-linear : goal.returns-clause-linear
returns-clause-linear c = λ set w r e. record {
  same = linear_is_kept set w r e;
  begins = restored_begins set w r;
}

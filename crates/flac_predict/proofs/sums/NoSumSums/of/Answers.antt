use Rattle.std.proofs.Common.{refl}
use Rattle.flac_predict.specs.Fixed.{lasts}
use Rattle.flac_predict.proofs.sums.NoSumSums.of.Goals as goal

pub returns-clause-last : goal.returns-clause-last
unfolding lasts
returns-clause-last c = refl

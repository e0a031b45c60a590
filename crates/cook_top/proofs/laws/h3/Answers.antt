use Rattle.cook_top.proofs.RoundTripLaws.{package_means}
use Rattle.cook_top.proofs.laws.h3.Goals as goal

pub returns : goal.returns
returns c = package_means c.spelled_is_outline.ensures

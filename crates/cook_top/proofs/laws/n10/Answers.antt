use Rattle.cook_top.proofs.PackageLaws.{package_shows}
use Rattle.cook_top.proofs.laws.n10.Goals as goal

pub returns : goal.returns
returns c = record { shown = package_shows c.spelled_is_outline.ensures }

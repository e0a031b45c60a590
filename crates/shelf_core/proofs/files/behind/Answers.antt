use Rattle.shelf_core.proofs.Relative.{stripped}
use Rattle.shelf_core.proofs.files.behind.Goals as goal

pub returns : goal.returns
returns c = stripped _ _ _ c.strip_prefix.ensures.cases

use Rattle.cook_restore.proofs.MeaningLaws.{files_in_order}
use Rattle.cook_restore.proofs.laws.files_are_in_order.Goals as goal

pub returns : goal.returns
returns c = files_in_order

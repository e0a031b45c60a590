use Rattle.shelf_core.proofs.UnderLaws.{contents_under-bytes}
use Rattle.shelf_core.proofs.laws.told_contents_are_bytes.Goals as goal

pub returns : goal.returns
returns c = contents_under-bytes

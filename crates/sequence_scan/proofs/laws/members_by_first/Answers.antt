use Rattle.sequence_scan.proofs.RunLaws.{members_by_first}
use Rattle.sequence_scan.proofs.laws.members_by_first.Goals as goal

pub returns : goal.returns
returns c = members_by_first

use Rattle.sequence_scan.proofs.RunLaws.{members_follow}
use Rattle.sequence_scan.proofs.laws.members_follow.Goals as goal

pub returns : goal.returns
returns c = members_follow

use Rattle.sequence_scan.proofs.RunLaws.{one_predecessor}
use Rattle.sequence_scan.proofs.laws.one_predecessor.Goals as goal

pub returns : goal.returns
returns c = one_predecessor

use Rattle.sequence_scan.proofs.Prefixes.{first_stays}
use Rattle.sequence_scan.proofs.laws.first_stays.Goals as goal

pub returns : goal.returns
returns c = first_stays

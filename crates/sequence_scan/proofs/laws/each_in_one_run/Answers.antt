use Rattle.sequence_scan.proofs.RunLaws.{each_in_one_run}
use Rattle.sequence_scan.proofs.laws.each_in_one_run.Goals as goal

pub returns : goal.returns
returns c = each_in_one_run

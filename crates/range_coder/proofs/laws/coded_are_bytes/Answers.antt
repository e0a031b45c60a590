use Rattle.range_coder.proofs.CodedLaws.{coded_are_bytes}
use Rattle.range_coder.proofs.laws.coded_are_bytes.Goals as goal

pub returns : goal.returns
returns c = coded_are_bytes

use Rattle.range_coder.proofs.CodedLaws.{coded_is_read, coded_begins, one_more_is_read}
use Rattle.range_coder.proofs.laws.n3.Goals as goal

pub returns-clause-reads : goal.returns-clause-reads
returns-clause-reads c = coded_is_read

pub returns-clause-begins : goal.returns-clause-begins
returns-clause-begins c = coded_begins

pub returns-clause-one : goal.returns-clause-one
returns-clause-one c = one_more_is_read

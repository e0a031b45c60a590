use Rattle.matroska_read.proofs.SpelledSegment.{spelled_is_outline}
use Rattle.matroska_read.proofs.laws.spelled_is_outline.Goals as goal

pub returns : goal.returns
returns c = spelled_is_outline c.written_size_is_read.ensures

use Rattle.flac_frame.proofs.InfoLaws as info
use Rattle.flac_frame.proofs.laws.info_is_read.Goals as goal

pub returns : goal.returns
returns c = info.info_is_read

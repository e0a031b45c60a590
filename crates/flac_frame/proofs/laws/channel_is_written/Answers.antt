use Rattle.flac_frame.proofs.BlockLaws as block
use Rattle.flac_frame.proofs.laws.channel_is_written.Goals as goal

pub returns : goal.returns
returns c = block.channel_is_written

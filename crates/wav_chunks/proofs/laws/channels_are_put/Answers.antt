use Rattle.wav_chunks.proofs.ChannelLaws.{channels-put}
use Rattle.wav_chunks.proofs.laws.channels_are_put.Goals as goal

pub returns : goal.returns
returns c = channels-put

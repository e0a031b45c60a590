use Rattle.wav_chunks.proofs.ChannelLaws.{channels-put-back}
use Rattle.wav_chunks.proofs.laws.channels_are_put_back.Goals as goal

pub returns : goal.returns
returns c = channels-put-back

use Rattle.wav_chunks.proofs.ChannelLaws.{blocks-bytes}
use Rattle.wav_chunks.proofs.laws.blocks_are_their_bytes.Goals as goal

pub returns : goal.returns
returns c = blocks-bytes

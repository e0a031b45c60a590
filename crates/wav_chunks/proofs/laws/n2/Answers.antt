use Rattle.wav_chunks.proofs.PartLaws.{waves-are-their-parts}
use Rattle.wav_chunks.proofs.laws.n2.Goals as goal

pub returns : goal.returns
returns c = waves-are-their-parts

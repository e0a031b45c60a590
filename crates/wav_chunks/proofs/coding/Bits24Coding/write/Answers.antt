use Rattle.std.proofs.Common.{ℤ, ◌∙◌, ap, w32}
use Rattle.std.proofs.lemmas.Int.{to_z-of_z}
use Rattle.wav_chunks.specs.Samples.{unsigned_of}
use Rattle.wav_chunks.proofs.CodingLaws.{put24}
use Rattle.wav_chunks.proofs.coding.Bits24Coding.write.Goals as goal

pub returns : goal.returns
returns c =
    put24 c.args.sample c.unsigned.result c.args.bytes.now c.write_u24.new.buf (c.unsigned.ensures.value ∙ ap (λ (s : ℤ). unsigned_of s 8388608) (to_z-of_z w32 c.args.sample c.ranges.sample)) c.requires.len c.write_u24.ensures

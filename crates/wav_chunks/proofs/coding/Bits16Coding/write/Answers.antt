use Rattle.std.proofs.Common.{ℤ, ◌∙◌, ap, w32}
use Rattle.std.proofs.lemmas.Int.{to_z-of_z}
use Rattle.wav_chunks.specs.Samples.{unsigned_of}
use Rattle.wav_chunks.proofs.CodingLaws.{put16}
use Rattle.wav_chunks.proofs.coding.Bits16Coding.write.Goals as goal

pub returns : goal.returns
returns c =
    put16 c.args.sample c.unsigned.result c.args.bytes.now c.write_u16.new.buf (c.unsigned.ensures.value ∙ ap (λ (s : ℤ). unsigned_of s 32768) (to_z-of_z w32 c.args.sample c.ranges.sample)) c.requires.len c.write_u16.ensures

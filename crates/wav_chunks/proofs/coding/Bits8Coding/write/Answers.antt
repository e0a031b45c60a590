use Rattle.std.proofs.Common.{ℤ, pos, ◌+ℤ◌, ◌∙◌, ap, w32}
use Rattle.std.proofs.lemmas.Int.{to_z-of_z}
use Rattle.wav_chunks.proofs.CodingLaws.{put8}
use Rattle.wav_chunks.proofs.coding.Bits8Coding.write.Goals as goal

pub returns : goal.returns
returns c =
    put8 c.args.sample c.args.bytes.now _ c.requires.inside c.requires.len (c.raised.ensures ∙ ap (λ (s : ℤ). s +ℤ pos 128) (to_z-of_z w32 c.args.sample c.ranges.sample))

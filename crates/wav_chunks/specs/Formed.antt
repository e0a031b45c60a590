-- What holds of a layout, and of what was seen before there is one, whatever a shelf tells.
use Rattle.std.specs.Prelude.{◌≡◌, ℕ, ◌+◌, ◌*◌, ◌^◌, ◌<◌, ◌≤◌, IfSome}
use Rattle.wav_chunks.specs.Samples.{IsDepth, block_len}
use Rattle.wav_chunks.specs.declared.layout.WavLayout.{WavLayout}
use Rattle.wav_chunks.specs.declared.parts.Chunk.{Chunk}
use Rattle.wav_chunks.specs.declared.parts.Format.{Format}
use Rattle.wav_chunks.specs.declared.parts.Sound.{Sound}
use Rattle.wav_chunks.specs.declared.parts.WaveSeen.{WaveSeen}

-- a chunk has a head, and the walk goes on behind it, inside the file
pub record IsChunk (place len : ℕ) (chunk : Chunk) : Type 0 where
  pub start : chunk.start ≡ place + 8
  pub head : place + 8 ≤ len
  pub size : chunk.size < 2 ^ 32
  pub on : place < chunk.behind
  pub within : chunk.behind ≤ len

pub record IsFormat (format : Format) : Type 0 where
  pub some : 1 ≤ format.channels
  pub few : format.channels ≤ 8
  pub depth : IsDepth format.bits
  pub rate_low : 1 ≤ format.rate
  pub rate_high : format.rate ≤ 1048575

pub record IsSound (len : ℕ) (sound : Sound) : Type 0 where
  pub format : IsFormat sound.format
  pub start : sound.start ≤ len

pub record IsSeen (len : ℕ) (seen : WaveSeen) : Type 0 where
  pub format : IfSome seen.format IsFormat
  pub sound : IfSome seen.sound (IsSound len)

-- a layout keeps the limits
pub record IsWellFormed (layout : WavLayout) : Type 0 where
  pub some : 1 ≤ layout.channels
  pub few : layout.channels ≤ 8
  pub depth : IsDepth layout.bits
  pub rate_low : 1 ≤ layout.rate
  pub rate_high : layout.rate ≤ 1048575
  pub blocks : layout.blocks < 2 ^ 36

-- the bytes of its blocks
abbrev pub sound_len : WavLayout → ℕ
sound_len layout = layout.blocks * block_len layout.bits layout.channels

-- and its blocks end where a file of so many bytes does, or before
pub record IsLayoutIn (len : ℕ) (layout : WavLayout) : Type 0 where
  pub formed : IsWellFormed layout
  pub within : layout.head_len + sound_len layout ≤ len

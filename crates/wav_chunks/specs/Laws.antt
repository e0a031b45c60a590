-- What holds of samples, blocks and bytes, and of the parts of a wave.
use Rattle.std.specs.Prelude.{◌≡◌, ◌≢◌, ℕ, ◌+◌, ◌*◌, ◌<◌, ℤ, List, ◌++◌, length, take, drop, Ok}
use Rattle.cook_bits.specs.Bits.{AreBytes}
use Rattle.wav_chunks.specs.Samples.{IsDepth, AreInside, block_len, blocks_of, channel_of, bytes_of_blocks, with_channel}
use Rattle.wav_chunks.specs.declared.layout.WavLayout.{WavLayout}
use Rattle.wav_chunks.specs.Formed.{IsLayoutIn, sound_len}
use Rattle.wav_chunks.specs.WaveParts.{wave_of}

-- the bytes of whole blocks are those that hold their samples
abbrev pub BlocksAreTheirBytes : Type 0
BlocksAreTheirBytes =
    (bits channels count : ℕ) (bytes : List ℕ) → IsDepth bits → length bytes ≡ count * block_len bits channels → AreBytes bytes
    → bytes_of_blocks bits (blocks_of bits channels count bytes) ≡ bytes

-- A channel's samples were put into whole blocks: they are taken again, and those of the other channels are as they were.
pub record IsPut (bits channels channel : ℕ) (samples : List ℤ) (old new : List ℕ) : Type 0 where
  pub long : length new ≡ length old
  pub are_bytes : AreBytes old → AreBytes new
  pub itself : channel_of channel (blocks_of bits channels (length samples) new) ≡ samples
  pub others :
      (other : ℕ) → other < channels → other ≢ channel
      → channel_of other (blocks_of bits channels (length samples) new) ≡ channel_of other (blocks_of bits channels (length samples) old)

abbrev pub ChannelsArePut : Type 0
ChannelsArePut =
    (bits channels channel : ℕ) (samples : List ℤ) (bytes : List ℕ) → IsDepth bits → channel < channels
    → length bytes ≡ length samples * block_len bits channels → AreInside bits samples
    → IsPut bits channels channel samples bytes (with_channel bits channels channel samples bytes)

-- a channel that is put back where it was taken changes nothing
abbrev pub ChannelsArePutBack : Type 0
ChannelsArePutBack =
    (bits channels channel count : ℕ) (bytes : List ℕ) → IsDepth bits → channel < channels
    → length bytes ≡ count * block_len bits channels → AreBytes bytes
    → with_channel bits channels channel (channel_of channel (blocks_of bits channels count bytes)) bytes ≡ bytes

-- the bytes before the blocks, those of the blocks and those behind them
abbrev pub head_of : WavLayout → List ℕ → List ℕ
head_of layout file = take layout.head_len file

abbrev pub sound_in : WavLayout → List ℕ → List ℕ
sound_in layout file = take (sound_len layout) (drop layout.head_len file)

abbrev pub tail_of : WavLayout → List ℕ → List ℕ
tail_of layout file = drop (layout.head_len + sound_len layout) file

-- the blocks of a file
abbrev pub blocks_in_file : WavLayout → List ℕ → List (List ℤ)
blocks_in_file layout file = blocks_of layout.bits layout.channels layout.blocks (sound_in layout file)

-- A file of the layout: the layout keeps the limits and its blocks are inside the file, which is its head, the bytes of its
-- blocks and its tail.
pub record IsWaveOf (layout : WavLayout) (file : List ℕ) : Type 0 where
  pub layout_in : IsLayoutIn (length file) layout
  pub long : length (sound_in layout file) ≡ sound_len layout
  pub whole : head_of layout file ++ bytes_of_blocks layout.bits (blocks_in_file layout file) ++ tail_of layout file ≡ file

abbrev pub WavesAreTheirParts : Type 0
WavesAreTheirParts = (layout : WavLayout) (file : List ℕ) → wave_of file ≡ Ok layout → AreBytes file → IsWaveOf layout file

-- What is written is read.
use Rattle.std.specs.Prelude.{◌≡◌, ℕ, ◌^◌, ◌<◌, ◌≤◌, ℤ, List, [], length, slice_index_or, Ok}
use Rattle.flac_predict.specs.Samples.{AreInside}
use Rattle.flac_frame.specs.declared.stream_info.StreamInfo.{StreamInfo}
use Rattle.flac_frame.specs.StreamInfo.{IsWritable, IsReadable}
use Rattle.flac_frame.specs.Samples.{BlockValue, IsBlock, channels_of}
use Rattle.flac_frame.specs.Frame.{frame_read}
use Rattle.flac_frame.specs.Writing.{size_of, flac_of, AreAllInside}

-- the samples of channels that the frame of a number can hold, for a stream
pub record AreChannels (info : StreamInfo) (channels : List (List ℤ)) (number : ℕ) : Type 0 where
  pub count : length channels ≡ info.channels
  pub some : 1 ≤ size_of channels
  pub few : size_of channels ≤ 4096
  pub within : size_of channels ≤ info.max_block
  pub same : (k : ℕ) → k < length channels → length (slice_index_or channels k []) ≡ size_of channels
  pub inside : (k : ℕ) → k < length channels → AreInside info.bits (slice_index_or channels k [])
  pub numbered : number < 2 ^ 31

-- a frame that is written is read as the samples that it was made of, wherever there is room for them
abbrev pub FrameIsRead : Type 0
FrameIsRead =
    (info : StreamInfo) (channels : List (List ℤ)) (number room : ℕ) → IsReadable info → AreChannels info channels number → size_of channels ≤ room
    → frame_read info room (flac_of channels info number) ≡ Ok channels

-- a frame that is written has at most so many bytes
abbrev pub FrameIsLight : Type 0
FrameIsLight =
    (info : StreamInfo) (channels : List (List ℤ)) (number : ℕ) → IsWritable info → AreChannels info channels number
    → length (flac_of channels info number) ≤ 98400

-- the frame that a number's block is written as is read as the samples of the block, wherever there is room for them
abbrev pub BlockIsRead : Type 0
BlockIsRead =
    (info : StreamInfo) (block : BlockValue) (number room : ℕ) → IsReadable info → IsBlock block → block.channels ≡ info.channels → 1 ≤ block.len → block.len ≤ 4096
    → block.len ≤ info.max_block → AreAllInside info.bits block → number < 2 ^ 31 → block.len ≤ room → frame_read info room (flac_of (channels_of block) info number) ≡ Ok (channels_of block)

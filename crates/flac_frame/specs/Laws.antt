-- What holds of the parameters of a stream and of a block's samples.
use Rattle.std.specs.Prelude.{◌≡◌, ℕ, ◌<◌, ℤ, List, length, Ok}
use Rattle.flac_frame.specs.declared.stream_info.StreamInfo.{StreamInfo}
use Rattle.flac_frame.specs.Samples.{BlockValue, IsBlock, with_channel, IsWritten}
use Rattle.flac_frame.specs.StreamInfo.{IsReadable, info_bytes, info_read}

-- samples that are written into a channel stand there, and those of the others stay
abbrev pub ChannelIsWritten : Type 0
ChannelIsWritten =
    (block : BlockValue) (k : ℕ) (samples : List ℤ) → IsBlock block → k < block.channels → length samples ≡ block.len → IsWritten block k samples (with_channel block k samples)

-- the bytes of a stream's parameters are read as these parameters
abbrev pub InfoIsRead : Type 0
InfoIsRead = (info : StreamInfo) → IsReadable info → info_read (info_bytes info) ≡ Ok info

-- Laws of samples as bytes and of blocks of them, of a window on a file, and of the chunks of a wave.
pub mod ChannelLaws
pub mod ChunkLaws
pub mod CodingLaws
pub mod FormatLaws
pub mod FoundLaws
pub mod LayoutLaws
pub mod Loops
pub mod PartLaws
pub mod Rows
pub mod WindowLaws

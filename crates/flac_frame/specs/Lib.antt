-- FLAC frames as lists of bits, and the stream's parameters as bytes.
pub mod Block
pub mod Frame
pub mod Header
pub mod Laws
pub mod Reading
pub mod Residual
pub mod RoundTrip
pub mod Samples
pub mod Spelling
pub mod StreamInfo
pub mod Subframe
pub mod Writing

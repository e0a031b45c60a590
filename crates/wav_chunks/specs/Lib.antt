-- Where the samples of a wave lie, and samples as bytes, both ways.
pub mod Formed
pub mod Found
pub mod Laws
pub mod Samples
pub mod WaveParts
pub mod Window

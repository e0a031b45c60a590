-- Parts of files.
pub mod PartLaws
pub mod Parts

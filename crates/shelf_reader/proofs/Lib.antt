-- Laws of the window of a reader.
pub mod WindowLaws

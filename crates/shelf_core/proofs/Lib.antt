-- Laws of files in memory, of names under a root, and of what restored files leave.
pub mod Places
pub mod Relative
pub mod RestoredLaws
pub mod StoreLaws
pub mod UnderLaws

-- What is known of a file's bytes, readings of them, and what a reader of them keeps.
pub mod Errors
pub mod Keeping
pub mod KeepingLaws
pub mod ReadingLaws
pub mod Readings
pub mod Seen
pub mod SeenLaws
pub mod Walk
pub mod WalkLaws

-- What a package holds, and what a reading of it answers.
pub mod Contents
pub mod Giving
pub mod Meaning
pub mod Plain
pub mod Restoring

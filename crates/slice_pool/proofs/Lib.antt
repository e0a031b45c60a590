pub mod Places
pub mod Runs
pub mod Halves
pub mod Whole

-- The definitions of frames' numbers and of runs, for every crate above.
pub mod Numbers
pub mod Runs
pub mod Scanning
pub mod Laws

-- What a Matroska file holds, for any list of bytes, and what a reading of it answers.
pub mod Answered
pub mod Clusters
pub mod Inside
pub mod Numbers
pub mod Outline
pub mod Places
pub mod PlacesLaws
pub mod Spelled
pub mod Tracks
pub mod Walk
pub mod WalkGoesOn

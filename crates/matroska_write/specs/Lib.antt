pub mod Attached
pub mod AttachedLaws
pub mod Cluster
pub mod Header
pub mod HeaderLaws
pub mod Tracks

pub mod Element
pub mod Heads
pub mod Laws
pub mod Prefixes
pub mod Rate
pub mod Reading

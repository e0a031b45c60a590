-- Names that are held, and the tree in which they are kept.
pub mod Held
pub mod Texts
pub mod Tree
pub use Rattle.cook_bits.specs.Names
pub mod Nodes
pub mod Searching
pub mod Walking
pub mod Giving
pub mod Laws

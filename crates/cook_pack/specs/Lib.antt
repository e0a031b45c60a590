-- What pack refuses, what it plans and what it writes.
pub mod Attaching
pub mod Entries
pub mod Film
pub mod Lengths
pub mod Offence
pub mod Package
pub mod Planned
pub mod Stops
pub mod Sum
pub use Rattle.cook_bits.specs.Names
pub use Rattle.shelf_core.specs.Told

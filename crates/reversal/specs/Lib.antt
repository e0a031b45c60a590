-- The side data of a package, as it is spelled and as it is read.
pub mod Lengths
pub mod SideData
pub mod SideReading
pub use Rattle.cook_bits.specs.Names

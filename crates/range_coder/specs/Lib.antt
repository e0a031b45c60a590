-- The definitions of the range coder, for every crate above.
pub mod Choices
pub mod Coding
pub mod DefaultTable
pub mod Encoding
pub mod Facts
pub mod Held
pub mod Interval
pub mod Laws
pub mod Placing
pub mod Reading
pub mod Symbol
pub mod Table
pub mod TableFields

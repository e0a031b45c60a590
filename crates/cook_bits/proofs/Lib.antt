-- Lemmas on bits, on remainders and on the rules of names.
pub mod Checks
pub mod CrcLaws
pub mod Division
pub mod Eights
pub mod Fields
pub mod Folders
pub mod Numbers
pub mod Orders
pub mod Parity
pub mod Plain
pub mod Registers
pub mod Tables
pub mod UnaryLaws

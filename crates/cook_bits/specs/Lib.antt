pub mod Bits
pub mod Crc
pub mod Laws
pub mod Names
pub mod Segments
pub mod Unary

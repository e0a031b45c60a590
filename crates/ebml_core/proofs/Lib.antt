pub mod Lengths
pub mod OnlySpelled
pub mod Rates
pub mod Readings
pub mod SpelledHeads

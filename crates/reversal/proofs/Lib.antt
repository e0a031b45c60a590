pub mod Found
pub mod Loop
pub mod NameFaults
pub mod NamesFound
pub mod NamesTaken
pub mod Round
pub mod Texts
pub mod Written

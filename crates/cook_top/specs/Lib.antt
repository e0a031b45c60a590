-- What the words of a command line order, how a command ends, what is written of it, and that a package means its directory.
pub mod Laws
pub mod Orders
pub mod Packing
pub mod Printing
pub mod RestoreLaw
pub mod Restoring
pub mod RoundTrip
pub mod Shown
pub mod Statuses
pub mod Texts

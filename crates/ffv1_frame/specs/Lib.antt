pub mod Footers
pub mod Grid
pub mod Heads
pub mod Laws
pub mod Marks
pub mod Parts
pub mod Picture
pub mod Written

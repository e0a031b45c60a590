-- The words of a shelf and of a sink, where nothing is told.
pub mod NothingTold

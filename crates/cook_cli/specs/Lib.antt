-- What the edge of the program says of a listing on its way, and of the files that are being written.
pub mod Walking
pub mod Writing

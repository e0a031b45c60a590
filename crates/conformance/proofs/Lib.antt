-- Laws of numbers inside their bits.
mod SampleLaws
-- Laws of shelves in memory.
mod ShelfLaws

-- The error of a piece, as that of a reading.
use Rattle.shelf_core.specs.declared.pieces.PieceError.{PieceError}
use Rattle.shelf_core.specs.declared.pieces.PieceError.TheVariants as piece
use Rattle.shelf_reader.specs.declared.error.ReadError.{ReadError}
use Rattle.shelf_reader.specs.declared.error.ReadError.TheVariants.{Failed, Short, NoMemory}

abbrev pub read_error : {F : Type 0} → PieceError → ReadError F
read_error (piece.Short now) = Short now
read_error piece.Failed = Failed
read_error piece.NoMemory = NoMemory

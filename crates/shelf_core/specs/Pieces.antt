-- Pieces of a file, read one after another.
use Rattle.std.specs.Prelude.{◌≡◌, ℕ, ◌+◌, ◌-◌, ◌<◌, ◌≤◌}
use Rattle.shelf_core.specs.declared.shelf.ShelfError.{ShelfError}
use Rattle.shelf_core.specs.declared.shelf.ShelfError.TheVariants as shelf
use Rattle.shelf_core.specs.declared.pieces.PieceError.{PieceError}
use Rattle.shelf_core.specs.declared.pieces.PieceError.TheVariants.{Short, Failed, NoMemory}

-- a shelf's error as that of a piece
abbrev pub piece_error : ShelfError → PieceError
piece_error shelf.Failed = Failed
piece_error shelf.NoMemory = NoMemory

-- a file that ended early ended inside the piece of so many bytes from a place on
abbrev pub EndsWithin : ℕ → ℕ → PieceError → Type 0
EndsWithin at len (Short now) = (at ≤ now) × (now < at + len)
EndsWithin at len Failed = Unit {0}
EndsWithin at len NoMemory = Unit {0}

-- a file of so many bytes that was read from a place on ended early at its end, or at that place where it ends before it
abbrev pub EndsAt : ℕ → ℕ → PieceError → Type 0
EndsAt at len (Short now) = now ≡ at + (len - at)
EndsAt at len Failed = Unit {0}
EndsAt at len NoMemory = Unit {0}

-- the file didn't end early
abbrev pub IsNotShort : PieceError → Type 0
IsNotShort (Short now) = ⊥
IsNotShort Failed = Unit {0}
IsNotShort NoMemory = Unit {0}

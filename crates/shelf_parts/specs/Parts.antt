-- Parts of a file's bytes.
use Rattle.std.specs.Prelude.{◌≡◌, ℕ, ◌+◌, ◌≤◌, List, length, take, drop}
use Rattle.md5.specs.Md5.{md5}
use Rattle.shelf_core.specs.Reads.{Tells, bytes_of}
use Rattle.shelf_core.specs.declared.shelf.Shelf.{Ghosts}
use Rattle.shelf_parts.specs.declared.parts.FilePart.{FilePart}

-- so many bytes from a place on, or fewer where the bytes end
abbrev pub part_of : ℕ → ℕ → List ℕ → List ℕ
part_of at len bytes = take len (drop at bytes)

-- the bytes of a part of a file on a shelf
abbrev pub part_on : {S : Type 0} → Ghosts S → S → FilePart → List ℕ
part_on g shelf part = part_of part.at part.len (bytes_of g shelf part.name.now)

-- the length of its file
abbrev pub file_len : {S : Type 0} → Ghosts S → S → FilePart → ℕ
file_len g shelf part = length (bytes_of g shelf part.name.now)

-- the part lies in its file
abbrev pub IsWithin : {S : Type 0} → Ghosts S → S → FilePart → Type 0
IsWithin g shelf part = part.at + part.len ≤ file_len g shelf part

-- the file has all bytes of the part, where the shelf tells it
abbrev pub IsWhole : {S : Type 0} → Ghosts S → S → FilePart → Type 0
IsWhole g shelf part = Tells g shelf → length (part_on g shelf part) ≡ part.len

-- the sum is that of the part
abbrev pub Sums : {S : Type 0} → Ghosts S → S → FilePart → List ℕ → Type 0
Sums g shelf part sum = Tells g shelf → sum ≡ md5 (part_on g shelf part)

-- a part that fits the buffer stands at its front
abbrev pub IsHeld : {S : Type 0} → Ghosts S → S → FilePart → List ℕ → Type 0
IsHeld g shelf part buffer = part.len ≤ length buffer → Tells g shelf → take part.len buffer ≡ part_on g shelf part

-- the piece behind those that were read stands at the front of the buffer
abbrev pub HoldsPiece : {S : Type 0} → Ghosts S → S → FilePart → ℕ → List ℕ → ℕ → Type 0
HoldsPiece g shelf part done buffer count = Tells g shelf → take count buffer ≡ take count (drop (part.at + done) (bytes_of g shelf part.name.now))

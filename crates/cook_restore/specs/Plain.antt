-- Side data whose records are of attached files alone, which is all that is given back as long as film and sound aren't: a record of
-- a frame or of a wave is a fault at its first byte. Such a fault is looked for in side data that is read whole.
use Rattle.std.specs.Prelude.{ℕ, ◌+◌, List, [], ◌∷◌, length, Option, Some, None, Result, Ok, Err}
use Rattle.reversal.specs.SideReading.{side_read}
use Rattle.reversal.specs.declared.record.Kind.{Kind}
use Rattle.reversal.specs.declared.record.Kind.TheVariants.{Other, Frame, Wave}
use Rattle.reversal.specs.declared.record.FileRecord.{FileRecord}
use Rattle.reversal.specs.declared.error.SideError.{SideError}
use Rattle.reversal.specs.declared.error.SideError.TheVariants as side

-- this place, where a record of this kind is a frame's or a wave's; else that of a later one
abbrev pub place_or : Kind → ℕ → Option ℕ → Option ℕ
place_or Other place later = later
place_or (Frame track index) place later = Some place
place_or (Wave track) place later = Some place

-- the first byte of the first record of a frame or of a wave, of records that begin at a place; that of an attached file has 27 bytes
-- beside its name
unfoldable pub film_place : ℕ → List FileRecord → Option ℕ
film_place place [] = None
film_place place (said ∷ records) = place_or said.kind place (film_place (place + (27 + length said.name)) records)

abbrev pub without_film : List FileRecord → Option ℕ → Result (List FileRecord) SideError
without_film records None = Ok records
without_film records (Some place) = Err (side.SideBad place)

-- the records begin behind the mark and their count, which have twelve bytes
unfoldable pub plain_of : Result (List FileRecord) SideError → Result (List FileRecord) SideError
plain_of (Ok records) = without_film records (film_place 12 records)
plain_of (Err error) = Err error

-- the records of side data, or its first fault
unfoldable pub plain_read : List ℕ → Result (List FileRecord) SideError
plain_read bytes = plain_of (side_read bytes)

-- Unsigned Integer Elements (RFC 8794, section 7.2), read.
use Rattle.std.specs.Prelude.{ℕ, ◌-◌, nat_le, if◌then◌else◌, List, [], ◌∷◌, length}
use Rattle.byteorder.specs.Endian.{big_number}
use Rattle.shelf_reader.specs.Readings.{fails, answers}
use Rattle.matroska_read.specs.Walk.{Read, content_of}
use Rattle.matroska_read.specs.declared.error.OutlineFault.TheVariants.{Shape}
use Rattle.matroska_read.specs.declared.parts.Element.{Element}

-- What a content says as a number: an empty one says its default.
abbrev pub number_of : ℕ → List ℕ → ℕ
number_of when_empty [] = when_empty
number_of when_empty (byte ∷ rest) = big_number (length (byte ∷ rest)) (byte ∷ rest)

-- the number of an element whose default is 0
unfoldable pub number_in : Element → List ℕ → ℕ
number_in element bytes = number_of 0 (content_of element bytes)

-- the same as a reading: an element of more than eight bytes is faulty
unfoldable pub number_read : Element → Read ℕ
number_read element = if nat_le (element.end - element.start) 8 then answers (number_in element) else fails (Shape element.place)

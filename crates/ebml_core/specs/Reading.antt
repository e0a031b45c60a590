-- The elements of EBML as a reader finds them (RFC 8794): what a list of bytes begins with.
use Rattle.std.specs.Prelude.{ℕ, ◌+◌, ◌*◌, ◌^◌, ◌%◌, ◌==◌, ◌&&◌, nat_le, if◌then◌else◌, List, [], ◌∷◌, length, drop, Option, Some, None}
use Rattle.std.specs.Int.{w8, leading_zeros}
use Rattle.byteorder.specs.Endian.{big_number}
use Rattle.ebml_core.specs.declared.parts.Size.{Size}
use Rattle.ebml_core.specs.declared.parts.Size.TheVariants.{Known, Unknown}
use Rattle.ebml_core.specs.declared.parts.Head.{Head}

-- VINT_WIDTH, the length in bytes of a VINT, by its first byte (section 4.1): one more than that has leading zeros
abbrev pub width_of : ℕ → ℕ
width_of first = leading_zeros w8 first + 1

-- the length of the VINT of at most `most` bytes that the bytes begin with, if they begin with a whole one
unfoldable pub vint_len : ℕ → List ℕ → Option ℕ
vint_len most [] = None
vint_len most (first ∷ rest) =
    let width = width_of first in
    if nat_le width most && nat_le width (length (first ∷ rest)) then Some width else None

abbrev pub id_of_len : List ℕ → Option ℕ → Option (ℕ × ℕ)
id_of_len bytes None = None
id_of_len bytes (Some len) = Some (big_number len bytes, len)

-- the Element ID that the bytes begin with (section 5), as a big-endian number with the marker kept,
-- and its length, one to four bytes
unfoldable pub id_at : List ℕ → Option (ℕ × ℕ)
id_at bytes = id_of_len bytes (vint_len 4 bytes)

-- what the VINT_DATA of an Element Data Size of that many bytes says (section 6): all ones mean that
-- the size is unknown
unfoldable pub size_meant : ℕ → ℕ → Size
size_meant len content = if content + 1 == 2 ^ (7 * len) then Unknown else Known content

abbrev pub size_of_len : List ℕ → Option ℕ → Option (Size × ℕ)
size_of_len bytes None = None
size_of_len bytes (Some len) = Some (size_meant len (big_number len bytes % 2 ^ (7 * len)), len)

-- the Element Data Size that the bytes begin with (section 6), and its length, one to eight bytes
unfoldable pub size_at : List ℕ → Option (Size × ℕ)
size_at bytes = size_of_len bytes (vint_len 8 bytes)

abbrev pub head_of_size : ℕ × ℕ → Option (Size × ℕ) → Option Head
head_of_size id None = None
head_of_size id (Some size) = Some (record { id = id.0; size = size.0; len = id.1 + size.1 })

abbrev pub head_of_id : List ℕ → Option (ℕ × ℕ) → Option Head
head_of_id bytes None = None
head_of_id bytes (Some id) = head_of_size id (size_at (drop id.1 bytes))

-- the head that the bytes begin with (section 3): an Element ID and then an Element Data Size
unfoldable pub head_at : List ℕ → Option Head
head_at bytes = head_of_id bytes (id_at bytes)

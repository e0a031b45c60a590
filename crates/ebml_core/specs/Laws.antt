-- What holds of elements as they are written and read.
use Rattle.std.specs.Prelude.{◌≡◌, ℕ, ◌+◌, ◌-◌, ◌*◌, ◌^◌, ◌<◌, ◌≤◌, List, ◌++◌, length, take, drop, Some, IsTrue}
use Rattle.std.specs.Int.{bytes_high_first}
use Rattle.cook_bits.specs.Bits.{AreBytes}
use Rattle.ebml_core.specs.declared.parts.Size.{Size}
use Rattle.ebml_core.specs.declared.parts.Size.TheVariants.{Known}
use Rattle.ebml_core.specs.declared.parts.Head.{Head}
use Rattle.ebml_core.specs.Element.{is_vint, IsIdentifier, shortest_size, size_bytes, head_of}
use Rattle.ebml_core.specs.Reading.{id_at, size_meant, size_at, head_at}

-- the head that is written is the head that is read, whatever follows it
abbrev pub WrittenHeadIsRead : Type 0
WrittenHeadIsRead =
    (id size : ℕ) (rest : List ℕ) → IsIdentifier id → size < 2 ^ 56 - 1 → head_at (head_of id size ++ rest) ≡ Some (record { id = id; size = Known size; len = length (head_of id size) })

-- the size that is written is the size that is read, whatever follows it
abbrev pub WrittenSizeIsRead : Type 0
WrittenSizeIsRead = (size : ℕ) (rest : List ℕ) → size < 2 ^ 56 - 1 → size_at (size_bytes size ++ rest) ≡ Some (Known size, shortest_size size)

-- each spelling of an identifier is read, whatever follows it
abbrev pub SpelledIdIsRead : Type 0
SpelledIdIsRead =
    (len id : ℕ) (rest : List ℕ) → 1 ≤ len → len ≤ 4 → IsTrue (is_vint len id) → id_at (bytes_high_first len id ++ rest) ≡ Some (id, len)

-- each spelling of a size is read, longer ones than the shortest too, whatever follows it
abbrev pub SpelledSizeIsRead : Type 0
SpelledSizeIsRead =
    (len content : ℕ) (rest : List ℕ) → 1 ≤ len → len ≤ 8 → content < 2 ^ (7 * len) → size_at (bytes_high_first len (2 ^ (7 * len) + content) ++ rest) ≡ Some (size_meant len content, len)

-- the bytes begin with a VINT of that many bytes, at most `most`, which spells the number
pub record SpellsVint (most : ℕ) (bytes : List ℕ) (len number : ℕ) : Type 0 where
  pub low : 1 ≤ len
  pub high : len ≤ most
  pub vint : IsTrue (is_vint len number)
  pub spelled : bytes ≡ bytes_high_first len number ++ drop len bytes

-- the bytes begin with a VINT of that many bytes, whose VINT_DATA means the size
pub record SpellsSize (bytes : List ℕ) (len : ℕ) (size : Size) : Type 0 where
  pub content : ℕ
  pub fits : content < 2 ^ (7 * len)
  pub spelled : SpellsVint 8 bytes len (2 ^ (7 * len) + content)
  pub meant : size ≡ size_meant len content

-- what is read as an identifier is the spelling of one
abbrev pub ReadIdIsSpelled : Type 0
ReadIdIsSpelled = (bytes : List ℕ) (id len : ℕ) → AreBytes bytes → id_at bytes ≡ Some (id, len) → SpellsVint 4 bytes len id × IsIdentifier id

-- what is read as a size is the spelling of one
abbrev pub ReadSizeIsSpelled : Type 0
ReadSizeIsSpelled = (bytes : List ℕ) (size : Size) (len : ℕ) → AreBytes bytes → size_at bytes ≡ Some (size, len) → SpellsSize bytes len size

-- a head that the bytes begin with stays the same where more bytes follow
abbrev pub HeadStays : Type 0
HeadStays = (bytes more : List ℕ) (head : Head) → head_at bytes ≡ Some head → head_at (bytes ++ more) ≡ Some head

-- twelve bytes tell whether there is a head, and which
abbrev pub TwelveBytesTell : Type 0
TwelveBytesTell = (bytes : List ℕ) (count : ℕ) → 12 ≤ count → head_at (take count bytes) ≡ head_at bytes

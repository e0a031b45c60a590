-- The elements of EBML as a writer spells them (RFC 8794). Each is stated on whole lists of bytes.
use Rattle.std.specs.Prelude.{ℕ, zero, suc, ◌+◌, ◌*◌, ◌^◌, Bool, ◌&&◌, ◌||◌, nat_lt, nat_le, if◌then◌else◌, IsTrue, List, ◌++◌, length}
use Rattle.std.specs.Int.{bytes_high_first}

-- of the number `from` and the `more` numbers after it, the least that passes the test, or the last where none before it does
unfoldable pub least_from : (ℕ → Bool) → ℕ → ℕ → ℕ
least_from test from zero = from
least_from test from (suc more) = if test from then from else least_from test (suc from) more

-- whether the number fits that many bytes
abbrev pub fits_bytes : ℕ → ℕ → Bool
fits_bytes value len = nat_lt value (2 ^ (8 * len))

-- the fewest bytes that hold the number, at least one of eight
unfoldable pub byte_count : ℕ → ℕ
byte_count value = least_from (fits_bytes value) 1 7

-- the content of an Unsigned Integer Element (section 7.2): big-endian, in the fewest bytes, at least one
unfoldable pub uint_bytes : ℕ → List ℕ
uint_bytes value = bytes_high_first (byte_count value) value

-- whether the number is a VINT of that many bytes, its VINT_MARKER kept (section 4): below the marker
-- there are 7 bits a byte, and above it none
abbrev pub is_vint : ℕ → ℕ → Bool
is_vint len number = nat_le (2 ^ (7 * len)) number && nat_lt number (2 ^ (7 * len + 1))

-- an Element ID (section 5): a VINT of one to four bytes, as the number of its bytes
abbrev pub is_identifier : ℕ → Bool
is_identifier id = is_vint 1 id || is_vint 2 id || is_vint 3 id || is_vint 4 id

abbrev pub IsIdentifier : ℕ → Type 0
IsIdentifier id = IsTrue (is_identifier id)

-- whether an Element Data Size of that many bytes can hold the size (section 6): 7 bits a byte, and
-- not all of them ones, which means that the size is unknown
abbrev pub fits_size : ℕ → ℕ → Bool
fits_size size len = nat_lt (size + 1) (2 ^ (7 * len))

-- the length of the shortest Element Data Size that holds the size, one to eight bytes
unfoldable pub shortest_size : ℕ → ℕ
shortest_size size = least_from (fits_size size) 1 7

-- the shortest Element Data Size (section 6): a VINT, which is the marker and below it the size, big-endian
unfoldable pub size_bytes : ℕ → List ℕ
size_bytes size = bytes_high_first (shortest_size size) (2 ^ (7 * shortest_size size) + size)

-- what an element begins with (section 3): its Element ID, big-endian with the marker kept, and the
-- size of its content
unfoldable pub head_of : ℕ → ℕ → List ℕ
head_of id size = uint_bytes id ++ size_bytes size

-- a whole element (section 3): its head and its content
unfoldable pub element : ℕ → List ℕ → List ℕ
element id content = head_of id (length content) ++ content

-- a whole Unsigned Integer Element
unfoldable pub uint_element : ℕ → ℕ → List ℕ
uint_element id value = element id (uint_bytes value)

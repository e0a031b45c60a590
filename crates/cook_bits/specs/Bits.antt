-- Bits in order: a number as its binary digits, and bytes as the bits in them, the highest of each byte first. So are
-- fields of bits written in FFV1 (RFC 9043, section 2.2) and in FLAC (RFC 9639, section 5).
use Rattle.std.specs.Prelude.{ℕ, zero, suc, ◌+◌, ◌/◌, ◌^◌, ◌<◌, ◌==◌, Bool, nat_le, if◌then◌else◌, List, [], ◌∷◌, length, slice_index, take, drop, Option, Some, None}
use Rattle.std.specs.Int.{bit_at}
use Rattle.std.specs.List.{flat_map}

-- the lowest bits of a number, so many, the highest of them first
unfoldable pub low_bits : ℕ → ℕ → List Bool
low_bits zero number = []
low_bits (suc count) number = (bit_at number count == 1) ∷ low_bits count number

-- the number whose binary digits the bits are, the highest first
unfoldable pub number_of : List Bool → ℕ
number_of [] = 0
number_of (bit ∷ bits) = (if bit then 2 ^ length bits else 0) + number_of bits

-- the numbers are bytes
abbrev pub AreBytes : List ℕ → Type 0
AreBytes bytes = (i : ℕ) → slice_index bytes i < 256

-- the bits of bytes
unfoldable pub bits_of : List ℕ → List Bool
bits_of bytes = flat_map (low_bits 8) bytes

-- so many bytes, whose bits the first bits are
unfoldable pub first_bytes : ℕ → List Bool → List ℕ
first_bytes zero bits = []
first_bytes (suc count) bits = number_of (take 8 bits) ∷ first_bytes count (drop 8 bits)

-- the bytes whose bits these are, eight bits a byte
unfoldable pub bytes_of : List Bool → List ℕ
bytes_of bits = first_bytes (length bits / 8) bits

-- the number of the first bits, if there are so many
unfoldable pub number_taken : ℕ → List Bool → Option ℕ
number_taken count bits = if nat_le count (length bits) then Some (number_of (take count bits)) else None

-- the bits that stand behind them; all of them, if there are fewer
unfoldable pub bits_left : ℕ → List Bool → List Bool
bits_left count bits = if nat_le count (length bits) then drop count bits else bits

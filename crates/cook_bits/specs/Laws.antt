-- What holds of bits and of checksums.
use Rattle.std.specs.Prelude.{◌≡◌, ℕ, ◌*◌, ◌%◌, ◌^◌, ◌<◌, Bool, List, [], ◌++◌, length, Some, fold}
use Rattle.std.specs.Int.{w32, bit_not, bytes_high_first}
use Rattle.std.specs.List.{concat}
use Rattle.cook_bits.specs.Bits.{AreBytes, low_bits, bits_of, bytes_of, number_taken, bits_left}
use Rattle.cook_bits.specs.Crc.{crc32_high_of, ebml_register_after, crc32_ebml_of}

-- a field that is written is read, whatever follows it
abbrev pub WrittenFieldIsRead : Type 0
WrittenFieldIsRead =
    (count value : ℕ) (rest : List Bool) → value < 2 ^ count
    → (number_taken count (low_bits count value ++ rest) ≡ Some value) × (bits_left count (low_bits count value ++ rest) ≡ rest)

-- bits are those of their bytes, and bytes those of their bits
abbrev pub BitsAreOfTheirBytes : Type 0
BitsAreOfTheirBytes = (bits : List Bool) → length bits % 8 ≡ 0 → bits_of (bytes_of bits) ≡ bits

abbrev pub BytesAreOfTheirBits : Type 0
BytesAreOfTheirBits = (bytes : List ℕ) → AreBytes bytes → bytes_of (bits_of bytes) ≡ bytes

-- the bits of bytes that follow one another, how many there are, and those of a number's bytes
abbrev pub BitsFollow : Type 0
BitsFollow = (xs ys : List ℕ) → bits_of (xs ++ ys) ≡ bits_of xs ++ bits_of ys

abbrev pub BitsAreEightAByte : Type 0
BitsAreEightAByte = (bytes : List ℕ) → length (bits_of bytes) ≡ 8 * length bytes

abbrev pub NumbersAreTheirBits : Type 0
NumbersAreTheirBits = (count number : ℕ) → bits_of (bytes_high_first count number) ≡ low_bits (8 * count) number

-- bytes that are followed by their CRC, big-endian, have the CRC 0
abbrev pub ParityLeavesZero : Type 0
ParityLeavesZero = (bytes : List ℕ) → crc32_high_of (bytes ++ bytes_high_first 4 (crc32_high_of bytes)) ≡ 0

-- and no other four bytes behind them leave 0
abbrev pub OnlyParityLeavesZero : Type 0
OnlyParityLeavesZero =
    (bytes parity : List ℕ) → AreBytes parity → length parity ≡ 4 → crc32_high_of (bytes ++ parity) ≡ 0 → parity ≡ bytes_high_first 4 (crc32_high_of bytes)

-- the register takes bytes in parts as it takes them whole
abbrev pub RegisterGoesOn : Type 0
RegisterGoesOn =
    (register : ℕ) (xs ys : List ℕ) → ebml_register_after register (xs ++ ys) ≡ ebml_register_after (ebml_register_after register xs) ys

abbrev pub RegisterStays : Type 0
RegisterStays = (register : ℕ) → register < 2 ^ 32 → ebml_register_after register [] ≡ register

abbrev pub RegisterFits : Type 0
RegisterFits = (register : ℕ) (bytes : List ℕ) → ebml_register_after register bytes < 2 ^ 32

-- however bytes are cut, the CRC of their parts is that of all of them
abbrev pub AnyCutIsTheSame : Type 0
AnyCutIsTheSame = (parts : List (List ℕ)) → bit_not w32 (fold ebml_register_after 0xFFFF_FFFF parts) ≡ crc32_ebml_of (concat parts)

-- the CRC has so many bits
abbrev pub FitsBits : ℕ → (List ℕ → ℕ) → Type 0
FitsBits width crc = (bytes : List ℕ) → crc bytes < 2 ^ width

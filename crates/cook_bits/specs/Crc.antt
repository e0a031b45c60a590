-- Cyclic redundancy checks: remainders of polynomials whose coefficients are bits.
use Rattle.std.specs.Prelude.{ℕ, zero, suc, Bool, false, not, if◌then◌else◌, List, [], ◌∷◌, ◌++◌, length, reverse, replicate}
use Rattle.std.specs.Int.{w32, bit_not}
use Rattle.std.specs.List.{flat_map}
use Rattle.cook_bits.specs.Bits.{low_bits, number_of}

-- the sum of two coefficients, which is also their difference
abbrev pub sum_of : Bool → Bool → Bool
sum_of x y = if x then not y else y

-- a polynomial, its highest coefficient first, with another added to its first coefficients
unfoldable pub added : List Bool → List Bool → List Bool
added [] row = row
added (x ∷ xs) [] = []
added (x ∷ xs) (y ∷ row) = sum_of x y ∷ added xs row

-- long division, so many steps of it: the highest coefficient goes, and where it was set, so does the divisor, whose own
-- highest coefficient isn't written
unfoldable pub divided : List Bool → ℕ → List Bool → List Bool
divided divisor zero row = row
divided divisor (suc steps) [] = []
divided divisor (suc steps) (highest ∷ row) = divided divisor steps (if highest then added divisor row else row)

-- the remainder of a message by a divisor of degree n: n zeros are put behind the message, and the start value is added
-- to its first n bits
unfoldable pub remainder_of : List Bool → List Bool → List Bool → List Bool
remainder_of divisor start message =
    divided divisor (length message) (added start (message ++ replicate (length divisor) false))

-- the orders in which the bits of a number are coefficients, from the highest coefficient on
abbrev pub highest_first : List Bool → List Bool
highest_first bits = bits

abbrev pub lowest_first : List Bool → List Bool
lowest_first bits = reverse bits

-- the remainder of bytes as a number. The width is the divisor's degree, and the divisor a number of so many bits
unfoldable pub crc_of : (List Bool → List Bool) → ℕ → ℕ → ℕ → List ℕ → ℕ
crc_of order width divisor start bytes =
    let message = flat_map (λ byte. order (low_bits 8 byte)) bytes in
    number_of (order (remainder_of (low_bits width divisor) (order (low_bits width start)) message))

-- the CRC of FFV1 (RFC 9043, section 4.9.3)
unfoldable pub crc32_high_of : List ℕ → ℕ
crc32_high_of bytes = crc_of highest_first 32 0x04C1_1DB7 0 bytes

-- the register of the CRC of EBML after more bytes
unfoldable pub ebml_register_after : ℕ → List ℕ → ℕ
ebml_register_after register bytes = crc_of lowest_first 32 0x04C1_1DB7 register bytes

-- the CRC of EBML (RFC 8794, section 11.3.1): the register begins and ends inverted
unfoldable pub crc32_ebml_of : List ℕ → ℕ
crc32_ebml_of bytes = bit_not w32 (ebml_register_after 0xFFFF_FFFF bytes)

-- the CRC of a FLAC frame's header (RFC 9639, section 9.1.8)
unfoldable pub crc8_of : List ℕ → ℕ
crc8_of bytes = crc_of highest_first 8 0x07 0 bytes

-- the CRC of a FLAC frame (RFC 9639, section 9.3)
unfoldable pub crc16_of : List ℕ → ℕ
crc16_of bytes = crc_of highest_first 16 0x8005 0 bytes

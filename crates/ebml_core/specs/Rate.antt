-- A whole number as a Float Element of eight bytes holds it (RFC 8794, section 7.3): an IEEE 754
-- double, which holds each number from 1 to 2 ^ 53 exactly.
use Rattle.std.specs.Prelude.{ℕ, ◌+◌, ◌-◌, ◌*◌, ◌^◌, nat_lt, Bool, List}
use Rattle.std.specs.Int.{bytes_high_first}
use Rattle.ebml_core.specs.Element.{least_from}

abbrev pub is_below_next_power : ℕ → ℕ → Bool
is_below_next_power value k = nat_lt value (2 ^ (k + 1))

-- the k for which 2 ^ k ≤ value < 2 ^ (k + 1)
unfoldable pub exponent_of : ℕ → ℕ
exponent_of value = least_from (is_below_next_power value) 0 63

-- the double's 64 bits as a number: the exponent with its bias of 1023, and in the 52 bits under it
-- what of the number stands below its leading one
unfoldable pub double_bits : ℕ → ℕ → ℕ
double_bits exponent value = (1023 + exponent) * 2 ^ 52 + (value - 2 ^ exponent) * 2 ^ (52 - exponent)

-- the double's eight bytes, big-endian
unfoldable pub double_bytes : ℕ → List ℕ
double_bytes value = bytes_high_first 8 (double_bits (exponent_of value) value)

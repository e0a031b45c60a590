-- A frame as it is written (RFC 9639, section 9): fields of bits, one behind another.
use Rattle.std.specs.Prelude.{ℕ, zero, suc, ◌+◌, ◌-◌, ◌/◌, ◌%◌, ◌^◌, Bool, true, false, nat_le, if◌then◌else◌, ℤ, pos, negsuc, List, [], ◌∷◌, ◌++◌, take}
use Rattle.std.specs.List.{flat_map}
use Rattle.cook_bits.specs.Bits.{low_bits}
use Rattle.flac_predict.specs.declared.choosing.Choice.{Choice}
use Rattle.flac_predict.specs.declared.choosing.Choice.TheVariants.{Constant, Fixed, Linear, Verbatim}
use Rattle.flac_predict.specs.declared.sets.LinearSet.{LinearSet}
use Rattle.flac_predict.specs.Fixed.{fixed_residuals}
use Rattle.flac_predict.specs.Linear.{linear_residuals}
use Rattle.flac_predict.specs.Bank.{bank_set}
use Rattle.flac_predict.specs.Rice.{zigzag, quotient}

-- the number of a field of so many bits in two's complement
abbrev pub signed_field : ℕ → ℤ → ℕ
signed_field count (pos n) = n
signed_field count (negsuc n) = 2 ^ count - 1 - n

-- one after the other, each in so many bits
unfoldable pub signed_bits : ℕ → List ℤ → List Bool
signed_bits count = flat_map (λ x. low_bits count (signed_field count x))

-- so many bits that aren't set, and one that is
unfoldable pub unary_bits : ℕ → List Bool
unary_bits zero = true ∷ []
unary_bits (suc count) = false ∷ unary_bits count

-- a number under a parameter: its part above in unary, its part below in as many bits (section 9.2.7.1)
abbrev pub rice_code : ℕ → ℕ → List Bool
rice_code parameter number = unary_bits (number / 2 ^ parameter) ++ low_bits parameter (number % 2 ^ parameter)

-- a residual under a parameter (section 9.2.7.1)
unfoldable pub value_bits_of : ℕ → ℤ → List Bool
value_bits_of parameter x = unary_bits (quotient parameter x) ++ low_bits parameter (zigzag x % 2 ^ parameter)

-- one after the other
unfoldable pub values_bits : ℕ → List ℤ → List Bool
values_bits parameter = flat_map (value_bits_of parameter)

-- the method: a parameter up to 14 has 4 bits, and a greater one 5
abbrev pub method_of : ℕ → ℕ
method_of parameter = if nat_le parameter 14 then 0 else 1

-- residuals in one partition (section 9.2.7)
unfoldable pub residual_bits_of : ℕ → List ℤ → List Bool
residual_bits_of parameter residuals =
    low_bits 2 (method_of parameter) ++ (low_bits 4 0 ++ (low_bits (4 + method_of parameter) parameter ++ values_bits parameter residuals))

-- a set of linear coefficients (section 9.2.6)
unfoldable pub set_bits : LinearSet → List Bool
set_bits set = low_bits 4 (set.precision - 1) ++ (low_bits 5 set.shift ++ signed_bits set.precision (take set.order set.coefficients))

-- the code of a kind (section 9.2.1)
abbrev pub kind_of : Choice → ℕ
kind_of Constant = 0
kind_of Verbatim = 1
kind_of (Fixed order parameter) = 8 + order
kind_of (Linear number parameter) = 31 + (bank_set number).order

-- samples of a depth, by the choice (sections 9.2.3 to 9.2.6)
unfoldable pub content_bits : ℕ → List ℤ → Choice → List Bool
content_bits depth samples Constant = signed_bits depth (take 1 samples)
content_bits depth samples Verbatim = signed_bits depth samples
content_bits depth samples (Fixed order parameter) =
    signed_bits depth (take order samples) ++ residual_bits_of parameter (fixed_residuals order samples)
content_bits depth samples (Linear number parameter) =
    let set = bank_set number in
    signed_bits depth (take set.order samples) ++ (set_bits set ++ residual_bits_of parameter (linear_residuals set samples))

-- a subframe with no wasted bits (section 9.2)
unfoldable pub subframe_bits : ℕ → List ℤ → Choice → List Bool
subframe_bits depth samples choice = low_bits 1 0 ++ (low_bits 6 (kind_of choice) ++ (low_bits 1 0 ++ content_bits depth samples choice))

-- Residuals as a subframe holds them (RFC 9639, section 9.2.7).
use Rattle.std.specs.Prelude.{ℕ, zero, suc, ◌+◌, ◌-◌, ◌*◌, ◌/◌, ◌%◌, ◌^◌, ◌==◌, ◌&&◌, Bool, nat_le, nat_lt, if◌then◌else◌, ℤ, pos, negsuc, List, [], ◌++◌, Result, Ok, Err}
use Rattle.flac_frame.specs.declared.error.FlacWhy.{FlacWhy}
use Rattle.flac_frame.specs.declared.error.FlacWhy.TheVariants.{Residual}
use Rattle.flac_frame.specs.Reading.{◌>>=◌, field_at, accepted_at, signed_at, unary_at, each_at}

-- a signed number of a natural one: 0, -1, 1, -2, 2 and so on
abbrev pub unfolded : ℕ → ℤ
unfolded number = if number % 2 == 0 then pos (number / 2) else negsuc (number / 2)

-- a residual above -2^31 and below 2^31: its quotient by a power of two in unary, and the rest
unfoldable pub value_at : ℕ → List Bool → Result (ℤ × List Bool) FlacWhy
value_at parameter bits = do
  quotient ← unary_at bits
  rest ← field_at parameter quotient.1
  let number = quotient.0 * 2 ^ parameter + rest.0
  if nat_le number (2 ^ 32 - 2) then Ok (unfolded number, rest.1) else Err Residual

-- the bits of a parameter by the method
abbrev pub parameter_width : ℕ → ℕ
parameter_width method = 4 + method

-- so many residuals behind a parameter; behind the greatest one they stand in two's complement, in so many bits
unfoldable pub partition_at : ℕ → ℕ → List Bool → Result (List ℤ × List Bool) FlacWhy
partition_at width size bits = do
  parameter ← field_at width bits
  if parameter.0 == 2 ^ width - 1
      then (field_at 5 parameter.1 >>= (λ escaped. each_at (signed_at escaped.0) size escaped.1))
      else each_at (value_at parameter.0) size parameter.1

-- so many partitions of one size, of whose first some samples are the warm-up
unfoldable pub partitions_at : ℕ → ℕ → ℕ → ℕ → List Bool → Result (List ℤ × List Bool) FlacWhy
partitions_at width size warm_up zero bits = Ok ([], bits)
partitions_at width size warm_up (suc count) bits = do
  first ← partition_at width (size - warm_up) bits
  others ← partitions_at width size 0 count first.1
  Ok (first.0 ++ others.0, others.1)

-- the partitions have one size, and the first one is larger than the warm-up
abbrev pub is_partition_order : ℕ → ℕ → ℕ → Bool
is_partition_order size order exponent = size % 2 ^ exponent == 0 && nat_lt order (size / 2 ^ exponent)

-- the residuals of a block of a size behind a warm-up
unfoldable pub residual_at : ℕ → ℕ → List Bool → Result (List ℤ × List Bool) FlacWhy
residual_at order size bits = do
  method ← accepted_at 2 (λ method. nat_lt method 2) Residual bits
  exponent ← accepted_at 4 (is_partition_order size order) Residual method.1
  partitions_at (parameter_width method.0) (size / 2 ^ exponent.0) order (2 ^ exponent.0) exponent.1

-- Residuals as a subframe holds them, in one partition (RFC 9639, section 9.2.7): how many bits each takes under a
-- parameter, and the parameter under which they take the fewest.
use Rattle.std.specs.Prelude.{ℕ, ◌+◌, ◌*◌, ◌/◌, ◌^◌, ℤ, pos, negsuc, neg_ℤ, ◌<ℤ◌, nat_le, if◌then◌else◌, List}
use Rattle.std.specs.List.{range_with_len, sum_by}
use Rattle.std.specs.Option.{unwrap_or}
use Rattle.flac_predict.specs.Samples.{sample_at}
use Rattle.flac_predict.specs.Least.{least_of}

-- a signed number as a natural one: 0, -1, 1, -2, 2 and so on
abbrev pub zigzag : ℤ → ℕ
zigzag (pos n) = 2 * n
zigzag (negsuc n) = 2 * n + 1

-- the residuals that a subframe can hold: each is above -2^31, and below 2^31 as every i32
pub record AreCodable (residuals : List ℤ) : Type 0 where
  pub each : (place : ℕ) → neg_ℤ (pos (2 ^ 31)) <ℤ sample_at residuals place

-- what of it stands in unary
abbrev pub quotient : ℕ → ℤ → ℕ
quotient parameter residual = zigzag residual / 2 ^ parameter

-- the bits of a residual: its quotient in unary, and as many bits as the parameter says
abbrev pub value_bits : ℕ → ℤ → ℕ
value_bits parameter residual = quotient parameter residual + 1 + parameter

-- a parameter up to 14 has 4 bits, and a greater one 5
abbrev pub parameter_bits : ℕ → ℕ
parameter_bits parameter = if nat_le parameter 14 then 4 else 5

-- the bits of the method, of the partition order, of the parameter and of the values
unfoldable pub residual_bits : ℕ → List ℤ → ℕ
residual_bits parameter residuals = 2 + 4 + parameter_bits parameter + sum_by (value_bits parameter) residuals

-- 0 to 30
unfoldable pub parameters : List ℕ
parameters = range_with_len 0 31

-- the parameter with the fewest bits, the least of these on a tie
unfoldable pub best_parameter : List ℤ → ℕ
best_parameter residuals = unwrap_or (least_of (λ parameter. residual_bits parameter residuals) parameters) 0

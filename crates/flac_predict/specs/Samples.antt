-- Samples: whole numbers, each inside a number of bits in two's complement.
use Rattle.std.specs.Prelude.{ℕ, ◌-◌, ◌^◌, ℤ, pos, negsuc, neg_ℤ, ◌≤ℤ◌, ◌<ℤ◌, Bool, true, nat_lt, ◌&&◌, List, [], ◌∷◌, slice_index_or}

-- whether it is from -2^(bits - 1) to 2^(bits - 1) - 1
unfoldable pub is_inside : ℕ → ℤ → Bool
is_inside bits (pos n) = nat_lt n (2 ^ (bits - 1))
is_inside bits (negsuc n) = nat_lt n (2 ^ (bits - 1))

-- whether each of them is
unfoldable pub all_inside : ℕ → List ℤ → Bool
all_inside bits [] = true
all_inside bits (sample ∷ more) = is_inside bits sample && all_inside bits more

-- it is inside its bits
pub record IsInside (bits : ℕ) (sample : ℤ) : Type 0 where
  pub low : neg_ℤ (pos (2 ^ (bits - 1))) ≤ℤ sample
  pub high : sample <ℤ pos (2 ^ (bits - 1))

-- the sample at a place; 0 past the end
abbrev pub sample_at : List ℤ → ℕ → ℤ
sample_at samples place = slice_index_or samples place (pos 0)

-- the samples are inside their bits
pub record AreInside (bits : ℕ) (samples : List ℤ) : Type 0 where
  pub each : (place : ℕ) → IsInside bits (sample_at samples place)

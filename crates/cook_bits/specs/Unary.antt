-- Numbers in unary: so many bits that aren't set, and one that is. So are quotients written in FLAC (RFC 9639, section
-- 9.2.7).
use Rattle.std.specs.Prelude.{◌≡◌, ℕ, suc, ◌-◌, ◌^◌, Bool, true, false, List, [], ◌∷◌, drop, min, Option, Some, None}

abbrev pub one_more : Option ℕ → Option ℕ
one_more None = None
one_more (Some count) = Some (suc count)

-- how many bits stand before the first that is set, if one is
unfoldable pub unary_taken : List Bool → Option ℕ
unary_taken [] = None
unary_taken (true ∷ bits) = Some 0
unary_taken (false ∷ bits) = one_more (unary_taken bits)

abbrev pub left_behind : Option ℕ → List Bool → List Bool
left_behind None bits = bits
left_behind (Some count) bits = drop (suc count) bits

-- the bits behind the first that is set; all of them, if none is
unfoldable pub unary_left : List Bool → List Bool
unary_left bits = left_behind (unary_taken bits) bits

-- a count, or the greatest number of 32 bits in place of a greater one
abbrev pub in_32_bits : Option ℕ → Option ℕ
in_32_bits None = None
in_32_bits (Some count) = Some (min count (2 ^ 32 - 1))

-- so many bits, counted in 32 bits, stand before the first that is set, and these bits behind it
pub record Found (taken : ℕ) (all rest : List Bool) : Type 0 where
  pub value : Some taken ≡ in_32_bits (unary_taken all)
  pub left : rest ≡ unary_left all

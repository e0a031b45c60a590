-- The samples of a plane: what each is predicted from, in which context its difference is coded, and that difference
-- (RFC 9043, sections 3.1 to 3.8).
use Rattle.std.specs.Prelude.{◌≡◌, ℕ, zero, suc, ◌+◌, ◌-◌, ◌*◌, ◌%◌, slice_index_or, if◌then◌else◌, min, max, Bool, true, List, [], ◌++◌, ℤ, pos, ◌+ℤ◌, ◌-ℤ◌, neg_ℤ, unsigned_abs}
use Rattle.std.specs.Int.{int_rem_euclid, is_negative}
use Rattle.range_coder.specs.Choices.{Choice, moved}
use Rattle.range_coder.specs.Symbol.{IsCodable, symbol_choices}
use Rattle.ffv1_slice.specs.declared.around.Around.{Around}

-- The sample at a place of a line, with the borders around the slice. The places are counted from two left of the
-- line and the lines from two above the slice. Above the slice all is 0; one left of a line stands the first sample of
-- the line above, and further left 0; right of a line stands its last sample.
unfoldable pub cell : ℕ → (ℕ → ℕ → ℕ) → ℕ → ℕ → ℕ
cell width plane zero place = 0
cell width plane (suc zero) place = 0
cell width plane (suc (suc y)) zero = 0
cell width plane (suc (suc zero)) (suc zero) = 0
cell width plane (suc (suc (suc y))) (suc zero) = plane y 0
cell width plane (suc (suc y)) (suc (suc x)) = plane y (min x (width - 1))

-- around place x of a line, whose places are counted from two left of it, below two lines above
abbrev pub around : (ℕ → ℕ) → (ℕ → ℕ) → (ℕ → ℕ) → ℕ → Around
around above2 above line x =
    record { left = line (x + 1); above = above (x + 2); above_left = above (x + 1); above_right = above (x + 3); left_left = line x; above_above = above2 (x + 2) }

-- around place x of line y of a plane
abbrev pub around_at : ℕ → (ℕ → ℕ → ℕ) → ℕ → ℕ → Around
around_at width plane y x = around (cell width plane y) (cell width plane (y + 1)) (cell width plane (y + 2)) x

-- the prediction: the median of the sample left, the one above, and left + above - above left
unfoldable pub prediction : Around → ℕ
prediction a = max (min a.left a.above) (min (max a.left a.above) (a.left + a.above - a.above_left))

-- a difference modulo 256, as the place in a quantization table
abbrev pub step : ℕ → ℕ → ℕ
step p q = (p + (256 - q % 256)) % 256

-- the value of a difference in one of the five tables of a set, which stand one behind another
abbrev pub value_at : List ℤ → ℕ → ℕ → ℤ
value_at values table difference = slice_index_or values (256 * table + difference) (pos 0)

-- the context, with its sign
unfoldable pub context : List ℤ → Around → ℤ
context values a =
    value_at values 0 (step a.left a.above_left) +ℤ value_at values 1 (step a.above_left a.above) +ℤ value_at values 2 (step a.above a.above_right) +ℤ value_at values 3 (step a.left_left a.left) +ℤ value_at values 4 (step a.above_above a.above)

-- the first of the 32 slots of a context's states, where those of context 0 begin with `first`
abbrev pub slot_in : ℕ → ℤ → ℕ
slot_in first context = first + 32 * unsigned_abs context

-- a difference modulo 2 * half, folded into -half to half - 1
abbrev pub folded : ℕ → ℕ → ℤ
folded half n = pos ((n + half) % (2 * half)) -ℤ pos half

-- the difference that is coded: where the context is negative, with the other sign
unfoldable pub difference : ℕ → Bool → ℕ → ℕ → ℤ
difference half negative prediction sample =
    if negative then folded half (prediction + 2 * half - sample) else folded half (sample + 2 * half - prediction)

-- the sample with which a difference is read
unfoldable pub restored : ℕ → Bool → ℕ → ℤ → ℕ
restored half negative prediction value =
    (prediction + unsigned_abs (int_rem_euclid (if negative then neg_ℤ value else value) (pos (2 * half)))) % (2 * half)

-- the choices with which a sample is coded
abbrev pub sample_choices : ℕ → List ℤ → ℕ → Around → ℕ → List Choice
sample_choices half values first a sample =
    moved (slot_in first (context values a)) (symbol_choices (difference half (is_negative (context values a)) (prediction a) sample) true)

-- choices that are read as a sample: a symbol in the context's states, any whose difference restores the sample
pub record IsSample (half : ℕ) (values : List ℤ) (first : ℕ) (a : Around) (sample : ℕ) (choices : List Choice) : Type 0 where
  pub value : ℤ
  pub codable : IsCodable value true
  pub is : choices ≡ moved (slot_in first (context values a)) (symbol_choices value true)
  pub restores : sample ≡ restored half (is_negative (context values a)) (prediction a) value

-- ---- lists of choices, each for a number below n

unfoldable pub joined : ℕ → (ℕ → List Choice) → List Choice
joined zero f = []
joined (suc n) f = joined n f ++ f n

pub record Split (Left Right : List Choice → Type 0) (choices : List Choice) : Type 0 where
  pub left : List Choice
  pub right : List Choice
  pub is : choices ≡ left ++ right
  pub left_is : Left left
  pub right_is : Right right

-- choices that are such lists one after another
unfoldable pub Joins : ℕ → (ℕ → List Choice → Type 0) → List Choice → Type 0
Joins zero P choices = choices ≡ []
Joins (suc n) P choices = Split (Joins n P) (P n) choices

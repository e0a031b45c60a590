-- The borders of a line.
use Rattle.std.specs.Prelude.{◌≡◌, ℕ, ◌+◌, ◌<◌, ◌≤◌, List, length, slice_index}

-- borders were written around the samples of a line
pub record IsBordered (width : ℕ) (above old new : List ℕ) : Type 0 where
  pub left_left : slice_index new 0 ≡ 0
  pub left : slice_index new 1 ≡ slice_index above 2
  pub right : slice_index new (width + 2) ≡ slice_index old (width + 1)
  pub within : (k : ℕ) → 2 ≤ k → k < width + 2 → slice_index new k ≡ slice_index old k
  pub behind : (k : ℕ) → width + 3 ≤ k → slice_index new k ≡ slice_index old k
  pub count : length new ≡ length old

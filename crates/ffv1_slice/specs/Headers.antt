-- The numbers of a header, as they are put.
use Rattle.std.specs.Prelude.{ℕ, ◌-◌, ◌^◌, ◌<◌, ◌≤◌, pos, slice_index}
use Rattle.range_coder.specs.declared.symbol.Placed.{Placed}
use Rattle.ffv1_slice.specs.declared.head.SliceHead.{SliceHead}

-- a number with the states of the header
abbrev pub placed_number : ℕ → Placed
placed_number number = record { first = 1; value = pos number }

-- each number of a head can be coded
pub record AreSmall (head : SliceHead) : Type 0 where
  pub x : head.x < 2 ^ 31
  pub y : head.y < 2 ^ 31
  pub columns_some : 1 ≤ head.columns
  pub rows_some : 1 ≤ head.rows
  pub columns : head.columns - 1 < 2 ^ 31
  pub rows : head.rows - 1 < 2 ^ 31
  pub luma_index : slice_index head.indices 0 < 2 ^ 31
  pub difference_index : slice_index head.indices 1 < 2 ^ 31

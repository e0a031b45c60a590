-- What the fields of a table keep.
use Rattle.std.specs.Prelude.{◌≡◌, ℕ, List, slice_index}
use Rattle.range_coder.specs.Table.{zero_state, IsLive, IsClosed}

-- the states after bit 0 are worked out, where they are used
pub record IsTable (ones zeros : List ℕ) : Type 0 where
  pub closed : IsClosed ones
  pub mirrored : (state : ℕ) → IsLive ones state → slice_index zeros state ≡ zero_state ones state

-- What keeps sums of samples within their words.
use Rattle.std.specs.Prelude.{◌≡◌, ℕ, ◌*◌, ◌^◌, ◌/◌, ◌<◌, ◌≤◌, List, slice_index}
use Rattle.ffv1_slice.specs.declared.around.Around.{Around}

-- each number is below `most`
pub record AreBelow (most : ℕ) (numbers : List ℕ) : Type 0 where
  pub each : (k : ℕ) → slice_index numbers k < most

pub record IsBelow (most : ℕ) (a : Around) : Type 0 where
  pub left : a.left < most
  pub above : a.above < most
  pub above_left : a.above_left < most
  pub above_right : a.above_right < most
  pub left_left : a.left_left < most
  pub above_above : a.above_above < most

-- two to the bits of a colour
pub record IsHalf (half : ℕ) : Type 0 where
  pub bits : ℕ
  pub few : bits ≤ 16
  pub power : half ≡ 2 ^ bits
  pub even : half ≡ 2 * (half / 2)
  pub least : 256 ≤ half
  pub most : half ≤ 65536

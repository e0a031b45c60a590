-- What a scratch has room for.
use Rattle.std.specs.Prelude.{◌≡◌, ℕ, ◌+◌, List, length}
use Rattle.ffv1_slice.specs.declared.lines.Lines.{Lines}
use Rattle.ffv1_slice.specs.declared.lines.Planes.{Planes}
use Rattle.ffv1_slice.specs.Slice.{slots_of}

-- so many contexts, and a width
pub record Room : Type 0 where
  pub contexts : ℕ
  pub width : ℕ

-- lines of this length
pub record AreLong (len : ℕ) (lines : Lines) : Type 0 where
  pub above2 : length lines.above2.items ≡ len
  pub above : length lines.above.items ≡ len
  pub line : length lines.line.items ≡ len

pub record PlanesAreLong (len : ℕ) (planes : Planes) : Type 0 where
  pub luma : AreLong len planes.luma
  pub blue : AreLong len planes.blue
  pub red : AreLong len planes.red

-- states for so many contexts, and lines for a width
pub record HasRoom (contexts width : ℕ) (states : List ℕ) (planes : Planes) : Type 0 where
  pub slots : length states ≡ slots_of contexts
  pub lines : PlanesAreLong (width + 3) planes

-- lines are as long as they were, if they were of one length
pub record KeepsLength (old new : Lines) : Type 0 where
  pub keeps : (len : ℕ) → AreLong len old → AreLong len new

pub record KeepsRoom (old new : Planes) : Type 0 where
  pub keeps : (len : ℕ) → PlanesAreLong len old → PlanesAreLong len new

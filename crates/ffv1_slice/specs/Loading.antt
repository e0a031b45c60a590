-- A line of pixels as lines of samples.
use Rattle.std.specs.Prelude.{◌≡◌, ℕ, ◌+◌, ◌*◌, ◌<◌, Bool, List, length, slice_index}
use Rattle.ffv1_slice.specs.Below.{AreBelow}
use Rattle.ffv1_slice.specs.Colour.{pixel_in, plane_sample}

-- the first samples of a plane stand in a line, two places from its start
pub record AreSamples (half : ℕ) (green : Bool) (pixels : List ℕ) (plane count : ℕ) (old new : List ℕ) : Type 0 where
  pub each : (x : ℕ) → x < count → slice_index new (x + 2) ≡ plane_sample half green (pixel_in pixels x) plane
  pub below : AreBelow (2 * half) old → AreBelow (2 * half) new
  pub count_same : length new ≡ length old

-- Samples as the colours of pixels.
use Rattle.std.specs.Prelude.{◌≡◌, ℕ, ◌+◌, ◌<◌, Bool, List, slice_index}
use Rattle.ffv1_slice.specs.Colour.{Pixel, pixel_in, plane_sample, AreColours}
use Rattle.ffv1_slice.specs.Pixels.{IsPixel}

-- a pixel has these samples
pub record HasSamples (half : ℕ) (green : Bool) (y cb cr : ℕ) (p : Pixel) : Type 0 where
  pub luma : plane_sample half green p 0 ≡ y
  pub blue : plane_sample half green p 1 ≡ cb
  pub red : plane_sample half green p 2 ≡ cr
  pub is_pixel : IsPixel half p
  pub are_colours : AreColours half y cb cr

-- so of some pixels from `at` on, and those before it are as they were
pub record RowStored (half : ℕ) (green : Bool) (luma blue red old new : List ℕ) (at count : ℕ) : Type 0 where
  pub each : (x : ℕ) → x < count → HasSamples half green (slice_index luma (x + 2)) (slice_index blue (x + 2)) (slice_index red (x + 2)) (pixel_in new (at + x))
  pub kept : (i : ℕ) → i < at → pixel_in new i ≡ pixel_in old i

-- and a pixel of a line isn't in range
pub record RowLeaves (half : ℕ) (luma blue red : List ℕ) (width : ℕ) : Type 0 where
  pub x : ℕ
  pub within : x < width
  pub leaves : AreColours half (slice_index luma (x + 2)) (slice_index blue (x + 2)) (slice_index red (x + 2)) → ⊥

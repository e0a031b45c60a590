-- The colours of a pixel.
use Rattle.std.specs.Prelude.{ℕ, ◌<◌}
use Rattle.ffv1_slice.specs.Colour.{Pixel}

-- each is below `half`
pub record IsPixel (half : ℕ) (p : Pixel) : Type 0 where
  pub red : p.red < half
  pub green : p.green < half
  pub blue : p.blue < half

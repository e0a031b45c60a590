-- The colours of a pixel as luma and two differences (RFC 9043, section 3.7.2, "RGB"), and back. `half` is two to
-- the bits of a colour. The differences have `half` added, so that none is below 0.
use Rattle.std.specs.Prelude.{ℕ, zero, suc, ◌+◌, ◌-◌, ◌*◌, ◌/◌, ◌^◌, ◌<◌, ◌≤◌, ◌==◌, ◌||◌, Bool, if◌then◌else◌, List, slice_index}

pub record Pixel : Type 0 where
  pub red : ℕ
  pub green : ℕ
  pub blue : ℕ

-- the pixel of a list of three colours a pixel, line by line
abbrev pub pixel_in : List ℕ → ℕ → Pixel
pixel_in tile i = record { red = slice_index tile (3 * i); green = slice_index tile (3 * i + 1); blue = slice_index tile (3 * i + 2) }

-- at 8 and 16 bits the differences are from green, at 10 and 12 bits from blue
abbrev pub from_green : ℕ → Bool
from_green bits = bits == 8 || bits == 16

abbrev pub base_of : Bool → Pixel → ℕ
base_of green p = if green then p.green else p.blue

abbrev pub other_of : Bool → Pixel → ℕ
other_of green p = if green then p.blue else p.green

-- Cb and Cr
abbrev pub blue_difference : ℕ → Bool → Pixel → ℕ
blue_difference half green p = other_of green p + half - base_of green p

abbrev pub red_difference : ℕ → Bool → Pixel → ℕ
red_difference half green p = p.red + half - base_of green p

-- Y: a fourth of the differences, without what was added to them, is added to the base
abbrev pub luma : ℕ → Bool → Pixel → ℕ
luma half green p = base_of green p + (blue_difference half green p + red_difference half green p) / 4 - half / 2

-- the sample of a pixel in a plane: 0 is Y, 1 is Cb, 2 is Cr
unfoldable pub plane_sample : ℕ → Bool → Pixel → ℕ → ℕ
plane_sample half green p zero = luma half green p
plane_sample half green p (suc zero) = blue_difference half green p
plane_sample half green p (suc (suc plane)) = red_difference half green p

-- the samples of a tile: of each plane, in each line, at each place
abbrev pub samples_of : ℕ → ℕ → List ℕ → ℕ → ℕ → ℕ → ℕ
samples_of bits width tile plane y x = plane_sample (2 ^ bits) (from_green bits) (pixel_in tile (y * width + x)) plane

-- back: the base that three samples tell, with 2 * half added
abbrev pub raised_base : ℕ → ℕ → ℕ → ℕ → ℕ
raised_base half y cb cr = y + half / 2 + 2 * half - (cb + cr) / 4

-- and the colour that a difference tells, with as much added
abbrev pub raised_colour : ℕ → ℕ → ℕ → ℕ
raised_colour half base difference = difference + base - half

pub record IsColour (half raised : ℕ) : Type 0 where
  pub low : 2 * half ≤ raised
  pub high : raised < 3 * half

pub record AreRaised (half base other red : ℕ) : Type 0 where
  pub base_is : IsColour half base
  pub other_is : IsColour half other
  pub red_is : IsColour half red

-- the three colours that three samples tell are all below `half`, and none below 0
abbrev pub AreColours : ℕ → ℕ → ℕ → ℕ → Type 0
AreColours half y cb cr =
    AreRaised half (raised_base half y cb cr) (raised_colour half (raised_base half y cb cr) cb) (raised_colour half (raised_base half y cb cr) cr)

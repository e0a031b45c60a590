-- What holds of tiles and the samples in them.
use Rattle.std.specs.Prelude.{◌≡◌, ℕ, ◌+◌, ◌*◌, ◌<◌, List, true, length, get_or}
use Rattle.std.specs.List.{sum_by}
use Rattle.dpx_packing.specs.declared.tile.Tile.{Tile}
use Rattle.dpx_packing.specs.Tiles.{CoverOnce, IsInside, pixels_before, place_of, tile_size, tile_samples, tile_after_tile, are_lines}

-- a colour of each pixel of a tile stands at its own place in the tile, and is the one at the pixel's place in the picture
pub record HoldsItsPixels (across : ℕ) (samples : List ℕ) (tile : Tile) : Type 0 where
  pub size : length (tile_samples across samples tile) ≡ tile_size tile
  pub each :
      (x y colour : ℕ) → x < tile.width → y < tile.height → colour < 3
      → get_or (tile_samples across samples tile) (place_of tile.width x y colour) 0
      ≡ get_or samples (place_of across (tile.x + x) (tile.y + y) colour) 0

abbrev pub TilesHoldTheirPixels : Type 0
TilesHoldTheirPixels =
    (across down : ℕ) (samples : List ℕ) (tile : Tile) → IsInside across down tile → length samples ≡ 3 * across * down
    → HoldsItsPixels across samples tile

-- tiles that cover the picture once have as many samples as it
abbrev pub TilesFill : Type 0
TilesFill =
    (across down : ℕ) (tiles : List Tile) → CoverOnce across down tiles → sum_by tile_size tiles ≡ 3 * across * down

-- two pictures whose tiles have the same samples are the same
abbrev pub TilesTellThePicture : Type 0
TilesTellThePicture =
    (across down : ℕ) (tiles : List Tile) (samples others : List ℕ) → CoverOnce across down tiles
    → length samples ≡ 3 * across * down → length others ≡ 3 * across * down
    → tile_after_tile across tiles samples ≡ tile_after_tile across tiles others → samples ≡ others

-- the samples of tiles of whole lines in order are those of the picture as they stand
abbrev pub WholeLinesStand : Type 0
WholeLinesStand =
    (across down : ℕ) (tiles : List Tile) (samples : List ℕ) → are_lines across down 0 tiles ≡ true
    → length samples ≡ 3 * across * down → tile_after_tile across tiles samples ≡ samples

-- Pixels are counted line by line: each is before those of the next lines, and before the end; and no two are at one place.
pub record CountsByLine (across down : ℕ) : Type 0 where
  pub line : (x y next : ℕ) → x < across → y < next → pixels_before across x y < next * across
  pub end : (x y : ℕ) → x < across → y < down → pixels_before across x y < across * down
  pub same_x :
      (x y other_x other_y : ℕ) → x < across → other_x < across
      → pixels_before across x y ≡ pixels_before across other_x other_y → x ≡ other_x
  pub same_y :
      (x y other_x other_y : ℕ) → x < across → other_x < across
      → pixels_before across x y ≡ pixels_before across other_x other_y → y ≡ other_y

abbrev pub PixelsCountByLine : Type 0
PixelsCountByLine = (across down : ℕ) → CountsByLine across down

-- Tiles of a picture: rectangles of pixels, whose samples stand tile after tile in a buffer, each line by line.
use Rattle.std.specs.Prelude.{◌≡◌, ℕ, zero, suc, ◌+◌, ◌*◌, ◌<◌, ◌≤◌, ◌==◌, ◌&&◌, Bool, nat_le, nat_lt, List, [], ◌∷◌, ◌++◌, All, take, drop, get_or}
use Rattle.std.specs.List.{count_by, flat_map}
use Rattle.dpx_packing.specs.declared.tile.Tile.{Tile}

-- ---- which pixels a tile has

-- whether the tile has the pixel at a place of its line and the height of that line
abbrev pub has_place : ℕ → ℕ → Tile → Bool
has_place x y tile =
    (nat_le tile.x x && nat_lt x (tile.x + tile.width)) && (nat_le tile.y y && nat_lt y (tile.y + tile.height))

-- the tile doesn't pass a picture of so many pixels across and so many lines down
pub record IsInside (across down : ℕ) (tile : Tile) : Type 0 where
  pub across_high : tile.x + tile.width ≤ across
  pub down_high : tile.y + tile.height ≤ down

-- each pixel of the picture is in exactly one tile, and no tile passes the picture
pub record CoverOnce (across down : ℕ) (tiles : List Tile) : Type 0 where
  pub inside : All (λ tile. IsInside across down tile) tiles
  pub once : (x y : ℕ) → x < across → y < down → count_by (λ tile. has_place x y tile) tiles ≡ 1

-- ---- places in lists of samples, three a pixel

-- the pixels before one, in lines of so many
abbrev pub pixels_before : ℕ → ℕ → ℕ → ℕ
pixels_before across x y = y * across + x

-- of a picture with so many pixels in a line: the place of a colour of the pixel at a place of its line and the
-- height of that line
abbrev pub place_of : ℕ → ℕ → ℕ → ℕ → ℕ
place_of across x y colour = 3 * pixels_before across x y + colour

-- the samples of a tile
abbrev pub tile_size : Tile → ℕ
tile_size tile = tile.height * (3 * tile.width)

-- the tile at a place of a list
abbrev pub tile_at : List Tile → ℕ → Tile
tile_at tiles i = get_or tiles i (record { x = 0; y = 0; width = 0; height = 0 })

-- ---- the samples of tiles

-- the samples of a line of a tile, in a picture with so many pixels in a line
abbrev pub tile_line : ℕ → List ℕ → Tile → ℕ → List ℕ
tile_line across samples tile row = take (3 * tile.width) (drop (place_of across tile.x (tile.y + row) 0) samples)

-- the first so many lines, one after the other
unfoldable pub lines_joined : (ℕ → List ℕ) → ℕ → List ℕ
lines_joined line zero = []
lines_joined line (suc count) = lines_joined line count ++ line count

unfoldable pub tile_samples : ℕ → List ℕ → Tile → List ℕ
tile_samples across samples tile = lines_joined (tile_line across samples tile) tile.height

-- the samples of all tiles, one tile after the other
unfoldable pub tile_after_tile : ℕ → List Tile → List ℕ → List ℕ
tile_after_tile across tiles samples = flat_map (tile_samples across samples) tiles

-- ---- tiles of whole lines

-- whether the tile has whole lines, from a height on
abbrev pub has_lines : ℕ → ℕ → Tile → Bool
has_lines across from tile = (tile.x == 0 && tile.width == across) && tile.y == from

-- whether the tiles have the whole lines from a height on to the end, in order
unfoldable pub are_lines : ℕ → ℕ → ℕ → List Tile → Bool
are_lines across down from [] = from == down
are_lines across down from (tile ∷ tiles) = has_lines across from tile && are_lines across down (from + tile.height) tiles

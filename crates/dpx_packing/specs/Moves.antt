-- What a tile that is put into a picture leaves of it.
use Rattle.std.specs.Prelude.{◌≡◌, ℕ, ◌<◌, false, List, length, get_or}
use Rattle.dpx_packing.specs.declared.tile.Tile.{Tile}
use Rattle.dpx_packing.specs.Tiles.{has_place, place_of}

-- the picture is as long, and each pixel outside the tile is as it was
pub record KeepsOthers (across : ℕ) (tile : Tile) (old new : List ℕ) : Type 0 where
  pub size : length new ≡ length old
  pub each :
      (x y colour : ℕ) → x < across → colour < 3 → has_place x y tile ≡ false
      → get_or new (place_of across x y colour) 0 ≡ get_or old (place_of across x y colour) 0

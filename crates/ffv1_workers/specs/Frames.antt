-- The samples of a frame in a buffer, tile after tile in order of its slices.
use Rattle.std.specs.Prelude.{◌≡◌, ℕ, ◌+◌, ◌*◌, ◌<◌, ◌≤◌, List, length, map, take, drop, slice_index_or, Result, Ok, Err, MatchResult}
use Rattle.std.specs.List.{range_with_len, sum_by}
use Rattle.dpx_packing.specs.declared.tile.Tile.{Tile}
use Rattle.dpx_packing.specs.Tiles.{tile_at, tile_size, tile_after_tile}
use Rattle.ffv1_params.specs.Parameters.{Parameters}
use Rattle.ffv1_slice.specs.declared.error.SliceWhy.{SliceWhy}
use Rattle.ffv1_slice.specs.declared.head.SliceHead.{SliceHead}
use Rattle.ffv1_frame.specs.declared.cells.Grid.{Grid}
use Rattle.ffv1_frame.specs.declared.part.Part.{Part}
use Rattle.ffv1_frame.specs.declared.picture.PictureWhy.{PictureWhy}
use Rattle.ffv1_frame.specs.declared.picture.PictureWhy.TheVariants.{Frame, Slice}
use Rattle.ffv1_frame.specs.Grid.{tile_of}
use Rattle.ffv1_frame.specs.Parts.{coded_in, no_head, tiles_of}
use Rattle.ffv1_frame.specs.Picture.{CodesTile, IsPictureOf}
use Rattle.ffv1_frame.specs.Written.{film_head}
use Rattle.slice_pool.specs.Tiles.{bound}
use Rattle.ffv1_workers.specs.Decoding.{part_at}

-- each bound up to this one is where the tiles before it end
pub record StartsBelow (tiles : List Tile) (i : ℕ) (bounds : List ℕ) : Type 0 where
  pub each : (k : ℕ) → k ≤ i → bound bounds k ≡ sum_by tile_size (take k tiles)

-- the bounds of tiles one after another
pub record AreStarts (tiles : List Tile) (bounds : List ℕ) : Type 0 where
  pub size : length bounds ≡ length tiles + 1
  pub each : (k : ℕ) → k ≤ length tiles → bound bounds k ≡ sum_by tile_size (take k tiles)

-- the tiles of the rows of a grid of one column
abbrev pub row_tiles : Grid → List Tile
row_tiles grid = map (λ row. tile_of grid (film_head row)) (range_with_len 0 grid.rows)

-- the samples of the tile with this number
abbrev pub samples_at : List Tile → ℕ → List ℕ → List ℕ
samples_at tiles k buffer = take (tile_size (tile_at tiles k)) (drop (sum_by tile_size (take k tiles)) buffer)

-- a buffer has the tile that each part codes, where the tiles before it end
pub record HasTiles (params : Parameters) (grid : Grid) (bytes : List ℕ) (parts : List Part) (buffer : List ℕ) : Type 0 where
  pub each : (k : ℕ) → k < length parts → CodesTile params grid k (coded_in bytes (part_at parts k)) (part_at parts k).head (samples_at (tiles_of grid parts) k buffer)

-- the frame means the picture whose tiles the buffer has
abbrev pub TellsPicture : Parameters → Grid → List ℕ → List Part → List ℕ → Type 0
TellsPicture params grid bytes parts buffer =
    (picture : List ℕ) → length picture ≡ 3 * grid.width * grid.height → tile_after_tile grid.width (tiles_of grid parts) picture ≡ buffer → IsPictureOf params grid bytes picture

-- ---- answers of all tiles

abbrev pub answer_at : List (Result SliceHead SliceWhy) → ℕ → Result SliceHead SliceWhy
answer_at answers k = slice_index_or answers k (Ok no_head)

abbrev pub IsHead : Result SliceHead SliceWhy → Type 0
IsHead answer = MatchResult answer (λ _. Unit {0}) (λ _. ⊥)

-- the first so many answers are heads
pub record AreHeadsBelow (answers : List (Result SliceHead SliceWhy)) (count : ℕ) : Type 0 where
  pub each : (k : ℕ) → k < count → IsHead (answer_at answers k)

-- the first answer that is a fault
pub record IsFirstErr (answers : List (Result SliceHead SliceWhy)) (number : ℕ) (why : SliceWhy) : Type 0 where
  pub listed : number < length answers
  pub before : AreHeadsBelow answers number
  pub fault : answer_at answers number ≡ Err why

abbrev pub IsFirstFault : List (Result SliceHead SliceWhy) → PictureWhy → Type 0
IsFirstFault answers (Frame why) = ⊥
IsFirstFault answers (Slice number why) = IsFirstErr answers number why

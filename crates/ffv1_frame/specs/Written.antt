-- The frame that this project writes of a picture: slices of whole lines, one cell each, in order.
use Rattle.std.specs.Prelude.{◌≡◌, ℕ, ◌*◌, ◌^◌, ◌<◌, ◌==◌, List, [], ◌∷◌, length, map, All}
use Rattle.std.specs.List.{range_with_len}
use Rattle.range_coder.specs.Interval.{coded}
use Rattle.dpx_packing.specs.declared.tile.Tile.{Tile}
use Rattle.dpx_packing.specs.Tiles.{tile_samples}
use Rattle.ffv1_params.specs.Parameters.{Parameters, AreFilm, IsPicture, film_rows}
use Rattle.ffv1_slice.specs.declared.head.SliceHead.{SliceHead}
use Rattle.ffv1_slice.specs.Slice.{slice_decisions}
use Rattle.ffv1_frame.specs.declared.cells.Grid.{Grid}
use Rattle.ffv1_frame.specs.Footers.{frame_of_slices}
use Rattle.ffv1_frame.specs.Grid.{tile_of}

abbrev pub film_head : ℕ → SliceHead
film_head row = record { x = 0; y = row; columns = 1; rows = 1; indices = 0 ∷ 0 ∷ [] }

abbrev pub film_grid : Parameters → ℕ → ℕ → Grid
film_grid params width height = record { columns = 1; rows = params.rows; width = width; height = height }

abbrev pub film_tile : Parameters → ℕ → ℕ → ℕ → Tile
film_tile params width height row = tile_of (film_grid params width height) (film_head row)

-- the tiles of its slices, in order
abbrev pub film_tiles : Parameters → ℕ → ℕ → List Tile
film_tiles params width height = map (film_tile params width height) (range_with_len 0 params.rows)

-- the coded bytes of a row of cells
unfoldable pub film_slice : Parameters → ℕ → ℕ → List ℕ → ℕ → List ℕ
film_slice params width height samples row =
    coded (slice_decisions params (film_head row) (film_tile params width height row).width (film_tile params width height row).height (row == 0) (tile_samples width samples (film_tile params width height row)))

abbrev pub film_slices : Parameters → ℕ → ℕ → List ℕ → List (List ℕ)
film_slices params width height samples = map (film_slice params width height samples) (range_with_len 0 params.rows)

unfoldable pub film_frame : Parameters → ℕ → ℕ → List ℕ → List ℕ
film_frame params width height samples = frame_of_slices (film_slices params width height samples)

-- the parameters that this project writes for a picture of this size
pub record AreFilmOf (params : Parameters) (width height : ℕ) : Type 0 where
  pub film : AreFilm params
  pub rows : params.rows ≡ film_rows width height

-- a picture of this size, each colour of so many bits
pub record IsPictureIn (bits width height : ℕ) (samples : List ℕ) : Type 0 where
  pub size : IsPicture width height
  pub long : length samples ≡ 3 * width * height
  pub within : All (λ sample. sample < 2 ^ bits) samples

-- What holds of frames.
use Rattle.std.specs.Prelude.{◌≡◌, ℕ, ◌<◌, ◌≤◌, ◌^◌, true, List, length, map, All, Ok}
use Rattle.cook_bits.specs.Bits.{AreBytes}
use Rattle.dpx_packing.specs.declared.tile.Tile.{Tile}
use Rattle.dpx_packing.specs.Tiles.{CoverOnce, are_lines, tile_samples}
use Rattle.ffv1_slice.specs.Slice.{IsTile}
use Rattle.ffv1_frame.specs.declared.cells.Grid.{Grid}
use Rattle.ffv1_frame.specs.declared.part.Part.{Part}
use Rattle.ffv1_frame.specs.Footers.{frame_of_slices, slices_of}
use Rattle.ffv1_params.specs.Parameters.{Parameters, AreFilm, AreSound, IsPicture}
use Rattle.ffv1_frame.specs.Grid.{IsGrid, IsGridOf, pixels_of}
use Rattle.ffv1_frame.specs.Parts.{IsCut, tiles_of}
use Rattle.ffv1_frame.specs.Picture.{IsPictureOf}
use Rattle.ffv1_frame.specs.Written.{film_frame, film_grid, film_slices, film_tile, film_tiles, AreFilmOf, IsPictureIn}

-- bytes that can be a slice: some, and few enough for their footer
pub record IsSlice (slice : List ℕ) : Type 0 where
  pub some : 1 ≤ length slice
  pub small : length slice < 2 ^ 24

-- slices that were put together are cut off again
abbrev pub FrameIsCut : Type 0
FrameIsCut =
    (slices : List (List ℕ)) → All IsSlice slices → 1 ≤ length slices → length slices ≤ 1024
    → slices_of true (frame_of_slices slices) ≡ Ok slices

-- boxes that cover each cell once are tiles that cover the picture once
abbrev pub CellsCover : Type 0
CellsCover =
    (grid : Grid) (cells : List Tile) → IsGrid grid → CoverOnce grid.columns grid.rows cells
    → CoverOnce grid.width grid.height (map (pixels_of grid) cells)

-- the frame that is written of a picture means it
abbrev pub FilmFrameIsPicture : Type 0
FilmFrameIsPicture =
    (params : Parameters) (width height : ℕ) (samples : List ℕ) → AreFilmOf params width height → IsPictureIn params.bits width height samples
    → IsPictureOf params (film_grid params width height) (film_frame params width height samples) samples

-- bytes mean one picture at most
abbrev pub PictureIsOne : Type 0
PictureIsOne =
    (params : Parameters) (grid : Grid) (bytes picture other : List ℕ) → AreSound params → AreBytes bytes → IsGridOf params grid
    → IsPictureOf params grid bytes picture → IsPictureOf params grid bytes other → picture ≡ other

-- a picture that bytes mean is one of the grid's size and the parameters' bits
abbrev pub PictureFits : Type 0
PictureFits =
    (params : Parameters) (grid : Grid) (bytes picture : List ℕ) → IsGridOf params grid → IsPictureOf params grid bytes picture
    → IsPictureIn params.bits grid.width grid.height picture

-- The tiles of the writer's grid are whole lines in order and cover the picture, their samples are tiles that slices code,
-- the slices are few bytes, and a written frame is cut into these tiles.
pub record FilmTilesStand : Type 0 where
  pub grid : (params : Parameters) (grid : Grid) → AreFilm params → IsGridOf params grid → grid ≡ film_grid params grid.width grid.height
  pub lines : (params : Parameters) (width height : ℕ) → AreFilmOf params width height → IsPicture width height → are_lines width height 0 (film_tiles params width height) ≡ true
  pub cover : (params : Parameters) (width height : ℕ) → AreFilmOf params width height → IsPicture width height → CoverOnce width height (film_tiles params width height)
  pub samples :
      (params : Parameters) (width height : ℕ) (samples : List ℕ) (row : ℕ) → AreFilmOf params width height → IsPictureIn params.bits width height samples → row < params.rows
      → IsTile params.bits (film_tile params width height row).width (film_tile params width height row).height (tile_samples width samples (film_tile params width height row))
  pub slices : (params : Parameters) (width height : ℕ) (samples : List ℕ) → AreFilmOf params width height → IsPictureIn params.bits width height samples → All IsSlice (film_slices params width height samples)
  pub parts :
      (params : Parameters) (width height : ℕ) (samples : List ℕ) (parts : List Part) → AreFilmOf params width height → IsPictureIn params.bits width height samples
      → IsCut params (film_grid params width height) (film_frame params width height samples) parts → tiles_of (film_grid params width height) parts ≡ film_tiles params width height

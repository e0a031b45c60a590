-- What the coding of a tile takes and answers.
use Rattle.std.specs.Prelude.{◌≡◌, ℕ, ◌<◌, ◌^◌, ◌==◌, List, [], ◌++◌, length, map, slice_index_or, Result, Ok, IfOk}
use Rattle.cook_bits.specs.declared.memory.NoMemory.{NoMemory}
use Rattle.range_coder.specs.Interval.{coded}
use Rattle.ffv1_params.specs.Parameters.{Parameters, AreSound}
use Rattle.ffv1_slice.specs.Slice.{IsTile, slice_decisions}
use Rattle.ffv1_frame.specs.declared.cells.Grid.{Grid}
use Rattle.ffv1_frame.specs.Footers.{footed, frame_of_slices}
use Rattle.ffv1_frame.specs.Grid.{IsGridOf, tile_of}
use Rattle.ffv1_frame.specs.Parts.{slice_at}
use Rattle.ffv1_frame.specs.Written.{film_head}

-- the grid has one column and a row with the number, of which the tile has the samples
pub record TakesRow (params : Parameters) (grid : Grid) (number : ℕ) (tile : List ℕ) : Type 0 where
  pub sound : AreSound params
  pub is_grid : IsGridOf params grid
  pub column : grid.columns ≡ 1
  pub listed : number < grid.rows
  pub is_tile : IsTile params.bits (tile_of grid (film_head number)).width (tile_of grid (film_head number)).height tile

-- the coded bytes of a tile as the cell of its row
abbrev pub coded_row : Parameters → Grid → ℕ → List ℕ → List ℕ
coded_row params grid number tile =
    coded (slice_decisions params (film_head number) (tile_of grid (film_head number)).width (tile_of grid (film_head number)).height (number == 0) tile)

-- ---- all answers

-- each answer is the slice with its number, unless there was no memory for it
pub record AreCoded (slices : List (List ℕ)) (answers : List (Result (List ℕ) NoMemory)) : Type 0 where
  pub count : length answers ≡ length slices
  pub each : (k : ℕ) (d : Result (List ℕ) NoMemory) → k < length slices → IfOk (slice_index_or answers k d) (λ bytes. bytes ≡ slice_at slices k)

-- the answers are these slices, with no refusal among them
abbrev pub AreSlices : List (Result (List ℕ) NoMemory) → List (List ℕ) → Type 0
AreSlices answers slices = answers ≡ map (λ slice. Ok slice) slices

-- the answer for a number
abbrev pub answer_of : List (Result (List ℕ) NoMemory) → ℕ → Result (List ℕ) NoMemory
answer_of answers number = slice_index_or answers number (Ok [])

-- ---- the frame of the slices

-- a slice has few enough bytes for its footer
abbrev pub IsShortSlice : Result (List ℕ) NoMemory → Type 0
IsShortSlice answer = IfOk answer (λ slice. length slice < 2 ^ 24)

-- a slice was answered, and stands with its footer at the end of a frame
pub record AddsSlice (answer : Result (List ℕ) NoMemory) (old new : List ℕ) : Type 0 where
  pub slice : List ℕ
  pub was : answer ≡ Ok slice
  pub added : new ≡ old ++ footed slice

-- slices were answered, and the frame is theirs
pub record IsFrameOf (answers : List (Result (List ℕ) NoMemory)) (frame : List ℕ) : Type 0 where
  pub slices : List (List ℕ)
  pub are : AreSlices answers slices
  pub is : frame ≡ frame_of_slices slices

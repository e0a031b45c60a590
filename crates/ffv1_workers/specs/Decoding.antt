-- What the decoding of a tile by its part takes and leaves.
use Rattle.std.specs.Prelude.{◌≡◌, ℕ, ◌<◌, ◌≤◌, ◌==◌, List, length, slice_index_or, Result, MatchResult}
use Rattle.dpx_packing.specs.Tiles.{tile_size}
use Rattle.ffv1_params.specs.Parameters.{Parameters}
use Rattle.ffv1_params.specs.QuantTables.{most_contexts}
use Rattle.ffv1_slice.specs.declared.error.SliceWhy.{SliceWhy}
use Rattle.ffv1_slice.specs.declared.head.SliceHead.{SliceHead}
use Rattle.ffv1_slice.specs.Faults.{SliceFault}
use Rattle.ffv1_slice.specs.Room.{Room}
use Rattle.ffv1_slice.specs.Slice.{Codes}
use Rattle.ffv1_frame.specs.declared.cells.Grid.{Grid}
use Rattle.ffv1_frame.specs.declared.part.Part.{Part}
use Rattle.ffv1_frame.specs.Grid.{IsGrid, IsHeadIn, tile_of}
use Rattle.ffv1_frame.specs.Parts.{coded_in, IsWithin, no_head}

abbrev pub part_at : List Part → ℕ → Part
part_at parts number = slice_index_or parts number (record { at = 0; len = 0; head = no_head })

-- there is a part with the number, in the frame and in the grid, and the tile has its size
pub record TakesTile (bytes : List ℕ) (params : Parameters) (grid : Grid) (parts : List Part) (number : ℕ) (tile : List ℕ) : Type 0 where
  pub is_grid : IsGrid grid
  pub listed : number < length parts
  pub within : IsWithin bytes (part_at parts number)
  pub inside : IsHeadIn grid (part_at parts number).head
  pub size : length tile ≡ tile_size (tile_of grid (part_at parts number).head)

-- the scratch has room for the parameters and for all tiles of the grid
pub record HasScratch (params : Parameters) (grid : Grid) (scratch : Room) : Type 0 where
  pub contexts : most_contexts params.sets ≤ scratch.contexts
  pub width : grid.width ≤ scratch.width

-- the tile is what the part's bytes code with the head that was answered, or they have this fault
abbrev pub DecodesTile : List ℕ → Parameters → Grid → List Part → ℕ → List ℕ → Result SliceHead SliceWhy → Type 0
DecodesTile bytes params grid parts number new answer =
    MatchResult answer
    (λ head. Codes params (number == 0) (tile_of grid (part_at parts number).head).width (tile_of grid (part_at parts number).head).height (coded_in bytes (part_at parts number)) head new)
    (λ why. SliceFault params (number == 0) (tile_of grid (part_at parts number).head).width (tile_of grid (part_at parts number).head).height (coded_in bytes (part_at parts number)) why)

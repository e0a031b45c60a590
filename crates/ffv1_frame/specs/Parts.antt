-- What a frame is cut into: the slices that the footers cut off, and their heads (RFC 9043, sections 4.5 and 4.6).
use Rattle.std.specs.Prelude.{◌≡◌, ℕ, ◌+◌, ◌<◌, ◌≤◌, ◌==◌, List, [], ◌∷◌, length, map, take, slice_index_or, slice_range, All, Ok, Err}
use Rattle.dpx_packing.specs.declared.tile.Tile.{Tile}
use Rattle.dpx_packing.specs.Tiles.{CoverOnce}
use Rattle.ffv1_params.specs.Parameters.{Parameters}
use Rattle.ffv1_slice.specs.declared.error.SliceWhy.{SliceWhy}
use Rattle.ffv1_slice.specs.declared.head.SliceHead.{SliceHead}
use Rattle.ffv1_slice.specs.Faults.{HeadFault}
use Rattle.ffv1_slice.specs.Slice.{CodesHead}
use Rattle.ffv1_frame.specs.declared.cells.Grid.{Grid}
use Rattle.ffv1_frame.specs.declared.error.FrameWhy.{FrameWhy}
use Rattle.ffv1_frame.specs.declared.error.FrameWhy.TheVariants as why
use Rattle.ffv1_frame.specs.declared.part.Part.{Part}
use Rattle.ffv1_frame.specs.Footers.{slices_of}
use Rattle.ffv1_frame.specs.Grid.{cells_of, tile_of}

-- ---- parts of a frame

-- the coded bytes of a part
abbrev pub coded_in : List ℕ → Part → List ℕ
coded_in bytes part = slice_range bytes part.at (part.at + part.len)

-- a part ends in the frame
pub record IsWithin (bytes : List ℕ) (part : Part) : Type 0 where
  pub high : part.at + part.len ≤ length bytes

abbrev pub head_of : Part → SliceHead
head_of part = part.head

abbrev pub cells_of_part : Part → Tile
cells_of_part part = cells_of part.head

-- the tiles of parts
abbrev pub tiles_of : Grid → List Part → List Tile
tiles_of grid parts = map (λ part. tile_of grid part.head) parts

pub record HasPixels (tile : Tile) : Type 0 where
  pub wide : 1 ≤ tile.width
  pub high : 1 ≤ tile.height

-- ---- heads

abbrev pub slice_at : List (List ℕ) → ℕ → List ℕ
slice_at slices k = slice_index_or slices k []

abbrev pub no_head : SliceHead
no_head = record { x = 0; y = 0; columns = 0; rows = 0; indices = 0 ∷ 0 ∷ [] }

-- the heads of slices in order, of which the first has the keyframe bit
pub record AreHeads (params : Parameters) (slices : List (List ℕ)) (heads : List SliceHead) : Type 0 where
  pub count : length heads ≡ length slices
  pub each : (k : ℕ) → k < length slices → CodesHead params (k == 0) (slice_at slices k) (slice_index_or heads k no_head)

-- the first head that is refused, behind some that aren't
pub record HeadIsRefused (params : Parameters) (slices : List (List ℕ)) (why : SliceWhy) : Type 0 where
  pub number : ℕ
  pub heads : List SliceHead
  pub listed : number < length slices
  pub before : AreHeads params (take number slices) heads
  pub fault : HeadFault params (number == 0) (slice_at slices number) why

-- ---- frames

-- a frame has these slices with these heads, which cover each cell of the grid once
pub record CutsInto (params : Parameters) (grid : Grid) (bytes : List ℕ) (slices : List (List ℕ)) (heads : List SliceHead) : Type 0 where
  pub slices_are : slices_of params.ec bytes ≡ Ok slices
  pub heads_are : AreHeads params slices heads
  pub cover : CoverOnce grid.columns grid.rows (map cells_of heads)

-- so a frame is cut into parts
pub record IsCut (params : Parameters) (grid : Grid) (bytes : List ℕ) (parts : List Part) : Type 0 where
  pub within : All (IsWithin bytes) parts
  pub into : CutsInto params grid bytes (map (coded_in bytes) parts) (map head_of parts)

pub record HeadFails (params : Parameters) (bytes : List ℕ) (why : SliceWhy) : Type 0 where
  pub slices : List (List ℕ)
  pub slices_are : slices_of params.ec bytes ≡ Ok slices
  pub refused : HeadIsRefused params slices why

pub record CoverFails (params : Parameters) (grid : Grid) (bytes : List ℕ) : Type 0 where
  pub slices : List (List ℕ)
  pub heads : List SliceHead
  pub slices_are : slices_of params.ec bytes ≡ Ok slices
  pub heads_are : AreHeads params slices heads
  pub uncovered : CoverOnce grid.columns grid.rows (map cells_of heads) → ⊥

-- the first fault of a frame: that of its footers, from the end; then that of a head; then that of the cells
abbrev pub FrameFault : Parameters → Grid → List ℕ → FrameWhy → Type 0
FrameFault params grid bytes why.FrameShort = slices_of params.ec bytes ≡ Err why.FrameShort
FrameFault params grid bytes why.SliceSize = slices_of params.ec bytes ≡ Err why.SliceSize
FrameFault params grid bytes why.SliceCrc = slices_of params.ec bytes ≡ Err why.SliceCrc
FrameFault params grid bytes (why.Head slice) = HeadFails params bytes slice
FrameFault params grid bytes why.SliceGrid = CoverFails params grid bytes

-- The picture that a frame means, or its first fault (RFC 9043, sections 4.4 to 4.8).
use Rattle.std.specs.Prelude.{◌≡◌, ℕ, ◌*◌, ◌<◌, ◌==◌, List, length, slice_index_or}
use Rattle.dpx_packing.specs.Tiles.{tile_samples}
use Rattle.ffv1_params.specs.Parameters.{Parameters}
use Rattle.ffv1_slice.specs.declared.error.SliceWhy.{SliceWhy}
use Rattle.ffv1_slice.specs.declared.head.SliceHead.{SliceHead}
use Rattle.ffv1_slice.specs.Faults.{SliceFault}
use Rattle.ffv1_slice.specs.Slice.{Codes}
use Rattle.ffv1_frame.specs.declared.cells.Grid.{Grid}
use Rattle.ffv1_frame.specs.declared.picture.PictureWhy.{PictureWhy}
use Rattle.ffv1_frame.specs.declared.picture.PictureWhy.TheVariants.{Frame, Slice}
use Rattle.ffv1_frame.specs.Grid.{tile_of}
use Rattle.ffv1_frame.specs.Parts.{no_head, slice_at, CutsInto, FrameFault}

abbrev pub head_at : List SliceHead → ℕ → SliceHead
head_at heads k = slice_index_or heads k no_head

-- the slice with this number codes a tile, of the size that its cells have
abbrev pub CodesTile : Parameters → Grid → ℕ → List ℕ → SliceHead → List ℕ → Type 0
CodesTile params grid number slice head tile =
    Codes params (number == 0) (tile_of grid head).width (tile_of grid head).height slice head tile

-- a frame means the picture whose tiles its slices code
pub record IsPictureOf (params : Parameters) (grid : Grid) (bytes picture : List ℕ) : Type 0 where
  pub slices : List (List ℕ)
  pub heads : List SliceHead
  pub cut : CutsInto params grid bytes slices heads
  pub long : length picture ≡ 3 * grid.width * grid.height
  pub each : (k : ℕ) → k < length slices → CodesTile params grid k (slice_at slices k) (head_at heads k) (tile_samples grid.width picture (tile_of grid (head_at heads k)))

-- a slice that codes some tile
pub record HasTile (params : Parameters) (grid : Grid) (number : ℕ) (slice : List ℕ) (head : SliceHead) : Type 0 where
  pub tile : List ℕ
  pub codes : CodesTile params grid number slice head tile

-- the first slice that codes none
pub record SliceFails (params : Parameters) (grid : Grid) (bytes : List ℕ) (number : ℕ) (why : SliceWhy) : Type 0 where
  pub slices : List (List ℕ)
  pub heads : List SliceHead
  pub cut : CutsInto params grid bytes slices heads
  pub listed : number < length slices
  pub before : (k : ℕ) → k < number → HasTile params grid k (slice_at slices k) (head_at heads k)
  pub fault : SliceFault params (number == 0) (tile_of grid (head_at heads number)).width (tile_of grid (head_at heads number)).height (slice_at slices number) why

-- the first fault of bytes that mean no picture
abbrev pub PictureFault : Parameters → Grid → List ℕ → PictureWhy → Type 0
PictureFault params grid bytes (Frame why) = FrameFault params grid bytes why
PictureFault params grid bytes (Slice number why) = SliceFails params grid bytes number why

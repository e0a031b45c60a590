-- What the reading of the heads of a frame's slices leaves.
use Rattle.std.specs.Prelude.{◌≡◌, ℕ, List, map, All}
use Rattle.dpx_packing.specs.Tiles.{CoverOnce}
use Rattle.ffv1_params.specs.Parameters.{Parameters}
use Rattle.ffv1_slice.specs.declared.head.SliceHead.{SliceHead}
use Rattle.ffv1_frame.specs.declared.cells.Grid.{Grid}
use Rattle.ffv1_frame.specs.declared.error.FrameWhy.{FrameWhy}
use Rattle.ffv1_frame.specs.declared.error.FrameWhy.TheVariants as why
use Rattle.ffv1_frame.specs.declared.part.Part.{Part}
use Rattle.ffv1_frame.specs.Grid.{cells_of}
use Rattle.ffv1_frame.specs.Parts.{coded_in, IsWithin, head_of, AreHeads, HeadIsRefused}

-- the same slices, with their heads
pub record HeadsRead (params : Parameters) (bytes : List ℕ) (old new : List Part) : Type 0 where
  pub same : map (coded_in bytes) new ≡ map (coded_in bytes) old
  pub within : All (IsWithin bytes) new
  pub heads : AreHeads params (map (coded_in bytes) new) (map head_of new)

-- and they cover each cell of the grid once
pub record Settles (params : Parameters) (grid : Grid) (bytes : List ℕ) (old new : List Part) : Type 0 where
  pub read : HeadsRead params bytes old new
  pub cover : CoverOnce grid.columns grid.rows (map cells_of (map head_of new))

pub record SettlesUncovered (params : Parameters) (grid : Grid) (slices : List (List ℕ)) : Type 0 where
  pub heads : List SliceHead
  pub heads_are : AreHeads params slices heads
  pub uncovered : CoverOnce grid.columns grid.rows (map cells_of heads) → ⊥

-- the fault of slices that the footers cut off
abbrev pub SettlesNot : Parameters → Grid → List (List ℕ) → FrameWhy → Type 0
SettlesNot params grid slices why.FrameShort = ⊥
SettlesNot params grid slices why.SliceSize = ⊥
SettlesNot params grid slices why.SliceCrc = ⊥
SettlesNot params grid slices (why.Head slice) = HeadIsRefused params slices slice
SettlesNot params grid slices why.SliceGrid = SettlesUncovered params grid slices

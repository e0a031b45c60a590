-- Lines of samples, as they are read.
use Rattle.std.specs.Prelude.{◌≡◌, ℕ, ◌+◌, ◌*◌, ◌<◌, List, ◌++◌, slice_index, ℤ}
use Rattle.range_coder.specs.Choices.{Choice, moved}
use Rattle.range_coder.specs.Coding.{Gets}
use Rattle.range_coder.specs.Reading.{Reader}
use Rattle.range_coder.specs.Symbol.{overlong_choices}
use Rattle.range_coder.specs.Table.{AreLive}
use Rattle.ffv1_params.specs.Parameters.{Parameters}
use Rattle.ffv1_slice.specs.declared.head.SliceHead.{SliceHead}
use Rattle.ffv1_slice.specs.declared.lines.Lines.{Lines}
use Rattle.ffv1_slice.specs.declared.lines.Planes.{Planes}
use Rattle.ffv1_slice.specs.Below.{AreBelow}
use Rattle.ffv1_slice.specs.Plane.{context, slot_in}
use Rattle.ffv1_slice.specs.Planes.{AreReady}
use Rattle.ffv1_slice.specs.Slice.{plane_values, first_slot}
use Rattle.ffv1_slice.specs.Work.{around_lines, IsLineRead}

-- the first samples of a line were read, behind its left border
pub record GetsSamples (table : List ℕ) (before : Reader) (states : List ℕ) (after : Reader) (left : List ℕ) (half : ℕ) (values : List ℤ) (first : ℕ) (above2 above line : List ℕ) (count : ℕ) : Type 0 where
  pub choices : List Choice
  pub read : IsLineRead half values first above2 above line count choices
  pub gets : Gets table before states after left choices
  pub left_left : slice_index line 0 ≡ 0
  pub left_border : slice_index line 1 ≡ slice_index above 2
  pub below : AreBelow (2 * half) line
  pub live : AreLive table left

-- a line was read, and has its borders
pub record GetsLine (table : List ℕ) (before : Reader) (states : List ℕ) (after : Reader) (left : List ℕ) (half : ℕ) (values : List ℤ) (first : ℕ) (above2 above line : List ℕ) (width : ℕ) : Type 0 where
  pub samples : GetsSamples table before states after left half values first above2 above line width
  pub right : slice_index line (width + 2) ≡ slice_index line (width + 1)

-- behind some samples of a line a symbol was too long
pub record LineFails (table : List ℕ) (before : Reader) (states : List ℕ) (after : Reader) (left : List ℕ) (half : ℕ) (values : List ℤ) (first : ℕ) (above2 above line : List ℕ) (width : ℕ) : Type 0 where
  pub x : ℕ
  pub choices : List Choice
  pub within : x < width
  pub left_left : slice_index line 0 ≡ 0
  pub left_border : slice_index line 1 ≡ slice_index above 2
  pub read : IsLineRead half values first above2 above line x choices
  pub gets : Gets table before states after left (choices ++ moved (slot_in first (context values (around_lines above2 above line x))) overlong_choices)

-- a plane went a line down, and the line was read
pub record PlaneGot (table : List ℕ) (before : Reader) (states : List ℕ) (after : Reader) (left : List ℕ) (half : ℕ) (values : List ℤ) (first width : ℕ) (old new : Lines) : Type 0 where
  pub above2 : new.above2.items ≡ old.above.items
  pub above : new.above.items ≡ old.line.items
  pub line : GetsLine table before states after left half values first old.above.items old.line.items new.line.items width
  pub ready : AreReady width (2 * half) new

-- a symbol of the line was too long
pub record PlaneFails (table : List ℕ) (before : Reader) (states : List ℕ) (after : Reader) (left : List ℕ) (half : ℕ) (values : List ℤ) (first width : ℕ) (old : Lines) : Type 0 where
  pub line : List ℕ
  pub fails : LineFails table before states after left half values first old.above.items old.line.items line width

abbrev pub GetsPlane : Parameters → SliceHead → ℕ → ℕ → ℕ → Reader → List ℕ → Reader → List ℕ → Lines → Lines → Type 0
GetsPlane params head half width plane before states after left old new =
    PlaneGot params.table before states after left half (plane_values params head plane) (first_slot params plane) width old new

abbrev pub FailsPlane : Parameters → SliceHead → ℕ → ℕ → ℕ → Reader → List ℕ → Reader → List ℕ → Lines → Type 0
FailsPlane params head half width plane before states after left old =
    PlaneFails params.table before states after left half (plane_values params head plane) (first_slot params plane) width old

-- the lines of a row were read
pub record RowGot (params : Parameters) (head : SliceHead) (half width : ℕ) (before : Reader) (states : List ℕ) (after : Reader) (left : List ℕ) (old new : Planes) : Type 0 where
  pub luma_reader : Reader
  pub luma_states : List ℕ
  pub blue_reader : Reader
  pub blue_states : List ℕ
  pub luma : GetsPlane params head half width 0 before states luma_reader luma_states old.luma new.luma
  pub blue : GetsPlane params head half width 1 luma_reader luma_states blue_reader blue_states old.blue new.blue
  pub red : GetsPlane params head half width 2 blue_reader blue_states after left old.red new.red
  pub live : AreLive params.table left

-- behind some lines of a row a symbol was too long
pub data RowFails (params : Parameters) (head : SliceHead) (half width : ℕ) (before : Reader) (states : List ℕ) (after : Reader) (left : List ℕ) (old : Planes) : Type 0 where
  in_luma : FailsPlane params head half width 0 before states after left old.luma → RowFails params head half width before states after left old
  in_blue : (r : Reader) (s : List ℕ) (new : Lines) → GetsPlane params head half width 0 before states r s old.luma new → FailsPlane params head half width 1 r s after left old.blue → RowFails params head half width before states after left old
  in_red : (r : Reader) (s : List ℕ) (new : Lines) (r' : Reader) (s' : List ℕ) (new' : Lines) → GetsPlane params head half width 0 before states r s old.luma new → GetsPlane params head half width 1 r s r' s' old.blue new' → FailsPlane params head half width 2 r' s' after left old.red → RowFails params head half width before states after left old

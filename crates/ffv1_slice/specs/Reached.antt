-- How far a slice was read.
use Rattle.std.specs.Prelude.{ℕ, ◌+◌, ◌*◌, ◌^◌, ◌<◌, Bool, List, ◌⊎◌}
use Rattle.range_coder.specs.Choices.{Choice}
use Rattle.range_coder.specs.Coding.{Gets}
use Rattle.range_coder.specs.Reading.{Reader}
use Rattle.range_coder.specs.Table.{AreLive}
use Rattle.ffv1_params.specs.Parameters.{Parameters}
use Rattle.ffv1_slice.specs.declared.error.SliceWhy.{SliceWhy}
use Rattle.ffv1_slice.specs.declared.error.SliceWhy.TheVariants as why
use Rattle.ffv1_slice.specs.declared.head.SliceHead.{SliceHead}
use Rattle.ffv1_slice.specs.declared.lines.Planes.{Planes}
use Rattle.ffv1_slice.specs.Colour.{pixel_in, from_green}
use Rattle.ffv1_slice.specs.Got.{RowGot, RowFails}
use Rattle.ffv1_slice.specs.Planes.{ComeTo}
use Rattle.ffv1_slice.specs.Slice.{AreRows, slice_states}
use Rattle.ffv1_slice.specs.Storing.{HasSamples, RowLeaves}
use Rattle.ffv1_slice.specs.Taking.{FrontRead, FrontFails}

-- the pixels of the first rows stand in a tile
pub record RowsStored (params : Parameters) (half width : ℕ) (samples : ℕ → ℕ → ℕ → ℕ) (tile : List ℕ) (rows : ℕ) : Type 0 where
  pub each : (y x : ℕ) → y < rows → x < width → HasSamples half (from_green params.bits) (samples 0 y x) (samples 1 y x) (samples 2 y x) (pixel_in tile (y * width + x))

-- the first rows were read, and stand in a tile
pub record RowsRead (params : Parameters) (head : SliceHead) (half width : ℕ) (before : Reader) (states : List ℕ) (after : Reader) (left : List ℕ) (planes : Planes) (tile : List ℕ) (rows : ℕ) : Type 0 where
  pub samples : ℕ → ℕ → ℕ → ℕ
  pub choices : List Choice
  pub are_rows : AreRows params head width samples rows choices
  pub gets : Gets params.table before states after left choices
  pub live : AreLive params.table left
  pub come : ComeTo half width samples rows planes
  pub stored : RowsStored params half width samples tile rows

-- a symbol of the next row was too long
pub record RowIsLong (params : Parameters) (head : SliceHead) (half width height : ℕ) (before : Reader) (states : List ℕ) : Type 0 where
  pub between : Reader
  pub held : List ℕ
  pub after : Reader
  pub left : List ℕ
  pub planes : Planes
  pub tile : List ℕ
  pub y : ℕ
  pub within : y < height
  pub read : RowsRead params head half width before states between held planes tile y
  pub fails : RowFails params head half width between held after left planes

-- a colour of the next row is out of its range
pub record RowIsWide (params : Parameters) (head : SliceHead) (half width height : ℕ) (before : Reader) (states : List ℕ) : Type 0 where
  pub between : Reader
  pub held : List ℕ
  pub after : Reader
  pub left : List ℕ
  pub planes : Planes
  pub new : Planes
  pub tile : List ℕ
  pub y : ℕ
  pub within : y < height
  pub read : RowsRead params head half width before states between held planes tile y
  pub got : RowGot params head half width between held after left planes new
  pub leaves : RowLeaves half new.luma.line.items new.blue.line.items new.red.line.items width

abbrev pub RowsFail : Parameters → SliceHead → ℕ → ℕ → ℕ → Reader → List ℕ → SliceWhy → Type 0
RowsFail params head half width height before states why.BadStart = ⊥
RowsFail params head half width height before states why.NotKey = ⊥
RowsFail params head half width height before states why.BadSymbol = RowIsLong params head half width height before states
RowsFail params head half width height before states why.SliceHeader = ⊥
RowsFail params head half width height before states why.SampleRange = RowIsWide params head half width height before states

-- a whole slice was read behind its start
pub record SliceRead (params : Parameters) (first : Bool) (width height : ℕ) (before : Reader) (head : SliceHead) (tile : List ℕ) : Type 0 where
  pub between : Reader
  pub held : List ℕ
  pub after : Reader
  pub left : List ℕ
  pub planes : Planes
  pub front : FrontRead params first before (slice_states params) between held head
  pub rows : RowsRead params head (2 ^ params.bits) width between held after left planes tile height

-- its header was refused, or its rows
pub record RowsAreBad (params : Parameters) (first : Bool) (width height : ℕ) (before : Reader) (fault : SliceWhy) : Type 0 where
  pub head : SliceHead
  pub between : Reader
  pub held : List ℕ
  pub front : FrontRead params first before (slice_states params) between held head
  pub rows : RowsFail params head (2 ^ params.bits) width height between held fault

pub record FrontIsBad (params : Parameters) (first : Bool) (before : Reader) (fault : SliceWhy) : Type 0 where
  pub after : Reader
  pub left : List ℕ
  pub front : FrontFails params first before (slice_states params) after left fault

abbrev pub SliceFails : Parameters → Bool → ℕ → ℕ → Reader → SliceWhy → Type 0
SliceFails params first width height before fault = FrontIsBad params first before fault ⊎ RowsAreBad params first width height before fault

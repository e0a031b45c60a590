-- The first fault of bytes that code no slice.
use Rattle.std.specs.Prelude.{◌≡◌, ℕ, ◌^◌, ◌<◌, ◌⊎◌, Bool, true, false, List, [], ◌∷◌, ◌++◌, length, slice_index}
use Rattle.range_coder.specs.Interval.{Reads}
use Rattle.range_coder.specs.Choices.{Choice, moved}
use Rattle.range_coder.specs.Symbol.{choice, overlong_choices}
use Rattle.ffv1_params.specs.Parameters.{Parameters}
use Rattle.ffv1_slice.specs.declared.error.SliceWhy.{SliceWhy}
use Rattle.ffv1_slice.specs.declared.error.SliceWhy.TheVariants as why
use Rattle.ffv1_slice.specs.declared.head.SliceHead.{SliceHead}
use Rattle.ffv1_slice.specs.Plane.{around_at, context, slot_in, IsSample, Joins}
use Rattle.ffv1_slice.specs.Colour.{AreColours}
use Rattle.ffv1_slice.specs.Slice.{decided_in, front_choices, AreTaken, TellHead, first_slot, plane_values, IsLine, IsRow, AreRows}

-- the keyframe bit is 0
pub record IsNotKey (params : Parameters) (first : Bool) (bytes : List ℕ) : Type 0 where
  pub asked : first ≡ true
  pub reads : Reads bytes (decided_in params (choice 0 false ∷ []))

-- a number of the header, behind some that were taken, is too long
pub record HasLongNumber (params : Parameters) (first : Bool) (bytes : List ℕ) : Type 0 where
  pub numbers : List ℕ
  pub taken : AreTaken params numbers
  pub few : length numbers < 9
  pub reads : Reads bytes (decided_in params (front_choices first numbers ++ moved 1 overlong_choices))

-- a number of the header, behind some that were taken, isn't
pub record HasBadNumber (params : Parameters) (first : Bool) (bytes : List ℕ) : Type 0 where
  pub numbers : List ℕ
  pub last : ℕ
  pub taken : AreTaken params numbers
  pub small : last < 2 ^ 31
  pub few : length numbers < 9
  pub refused : AreTaken params (numbers ++ last ∷ []) → ⊥
  pub reads : Reads bytes (decided_in params (front_choices first (numbers ++ last ∷ [])))

-- the fault of a header
abbrev pub HeadFault : Parameters → Bool → List ℕ → SliceWhy → Type 0
HeadFault params first bytes why.BadStart = slice_index bytes 0 ≡ 255
HeadFault params first bytes why.NotKey = IsNotKey params first bytes
HeadFault params first bytes why.BadSymbol = HasLongNumber params first bytes
HeadFault params first bytes why.SliceHeader = HasBadNumber params first bytes
HeadFault params first bytes why.SampleRange = ⊥

-- the colours of the first rows are all in range
pub record AreInRange (half width : ℕ) (samples : ℕ → ℕ → ℕ → ℕ) (rows : ℕ) : Type 0 where
  pub each : (y x : ℕ) → y < rows → x < width → AreColours half (samples 0 y x) (samples 1 y x) (samples 2 y x)

-- a whole header, and whole rows in range behind it
pub record Comes (params : Parameters) (first : Bool) (width rows : ℕ) (head : SliceHead) (samples : ℕ → ℕ → ℕ → ℕ) (choices : List Choice) : Type 0 where
  pub numbers : List ℕ
  pub behind : List Choice
  pub tell : TellHead params numbers head
  pub are_rows : AreRows params head width samples rows behind
  pub in_range : AreInRange (2 ^ params.bits) width samples rows
  pub is : choices ≡ front_choices first numbers ++ behind

-- behind whole rows, whole lines and a part of a line, a symbol is too long
pub record HasLongSample (params : Parameters) (first : Bool) (width height : ℕ) (bytes : List ℕ) : Type 0 where
  pub head : SliceHead
  pub samples : ℕ → ℕ → ℕ → ℕ
  pub y : ℕ
  pub plane : ℕ
  pub x : ℕ
  pub before : List Choice
  pub lines : List Choice
  pub line : List Choice
  pub y_within : y < height
  pub plane_within : plane < 3
  pub x_within : x < width
  pub comes : Comes params first width y head samples before
  pub lines_are : Joins plane (IsLine params head width samples y) lines
  pub line_is : Joins x (λ x. IsSample (2 ^ params.bits) (plane_values params head plane) (first_slot params plane) (around_at width (samples plane) y x) (samples plane y x)) line
  pub reads : Reads bytes (decided_in params (before ++ (lines ++ (line ++ moved (slot_in (first_slot params plane) (context (plane_values params head plane) (around_at width (samples plane) y x))) overlong_choices))))

-- behind whole rows in range, a whole row has a colour that isn't
pub record LeavesRange (params : Parameters) (first : Bool) (width height : ℕ) (bytes : List ℕ) : Type 0 where
  pub head : SliceHead
  pub samples : ℕ → ℕ → ℕ → ℕ
  pub y : ℕ
  pub x : ℕ
  pub before : List Choice
  pub row : List Choice
  pub y_within : y < height
  pub x_within : x < width
  pub comes : Comes params first width y head samples before
  pub row_is : IsRow params head width samples y row
  pub leaves : AreColours (2 ^ params.bits) (samples 0 y x) (samples 1 y x) (samples 2 y x) → ⊥
  pub reads : Reads bytes (decided_in params (before ++ row))

-- the fault of a slice: that of its header, or of its rows
abbrev pub SliceFault : Parameters → Bool → ℕ → ℕ → List ℕ → SliceWhy → Type 0
SliceFault params first width height bytes why.BadStart = HeadFault params first bytes why.BadStart
SliceFault params first width height bytes why.NotKey = HeadFault params first bytes why.NotKey
SliceFault params first width height bytes why.BadSymbol = HasLongNumber params first bytes ⊎ HasLongSample params first width height bytes
SliceFault params first width height bytes why.SliceHeader = HeadFault params first bytes why.SliceHeader
SliceFault params first width height bytes why.SampleRange = LeavesRange params first width height bytes

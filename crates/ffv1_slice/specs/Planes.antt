-- The lines of a plane, on the way down a slice.
use Rattle.std.specs.Prelude.{◌≡◌, ℕ, ◌+◌, ◌*◌, ◌^◌, ◌<◌, ◌≤◌, Bool, List, ◌++◌, length, slice_index}
use Rattle.range_coder.specs.Choices.{Choice}
use Rattle.ffv1_params.specs.Parameters.{Parameters}
use Rattle.ffv1_slice.specs.declared.head.SliceHead.{SliceHead}
use Rattle.ffv1_slice.specs.declared.lines.Lines.{Lines}
use Rattle.ffv1_slice.specs.declared.lines.Planes.{Planes}
use Rattle.ffv1_slice.specs.Below.{AreBelow}
use Rattle.ffv1_slice.specs.Blank.{IsBlank}
use Rattle.ffv1_slice.specs.Colour.{pixel_in, plane_sample}
use Rattle.ffv1_slice.specs.Slice.{plane_values, first_slot}
use Rattle.ffv1_slice.specs.Work.{HoldsLine, choices_of_line}

-- lines of this width, of numbers below `most`
pub record AreReady (width most : ℕ) (lines : Lines) : Type 0 where
  pub above2 : AreBelow most lines.above2.items
  pub above : AreBelow most lines.above.items
  pub line : AreBelow most lines.line.items
  pub above2_long : width + 3 ≤ length lines.above2.items
  pub above_long : width + 3 ≤ length lines.above.items
  pub line_long : width + 3 ≤ length lines.line.items

-- a line of pixels was brought in
pub record IsLoaded (half : ℕ) (green : Bool) (pixels : List ℕ) (plane width : ℕ) (old new : Lines) : Type 0 where
  pub above2 : new.above2.items ≡ old.above.items
  pub above : new.above.items ≡ old.line.items
  pub left_left : slice_index new.line.items 0 ≡ 0
  pub left : slice_index new.line.items 1 ≡ slice_index old.line.items 2
  pub right : slice_index new.line.items (width + 2) ≡ slice_index new.line.items (width + 1)
  pub samples : (x : ℕ) → x < width → slice_index new.line.items (x + 2) ≡ plane_sample half green (pixel_in pixels x) plane
  pub ready : AreReady width (2 * half) new

-- before line y the two lines above it stand in the last two
pub record HoldsAbove (width : ℕ) (plane : ℕ → ℕ → ℕ) (y : ℕ) (lines : Lines) : Type 0 where
  pub above : HoldsLine width plane y lines.above.items
  pub line : HoldsLine width plane (y + 1) lines.line.items

-- the lines of a plane, as line y is coded
pub record HoldsLines (width : ℕ) (plane : ℕ → ℕ → ℕ) (y : ℕ) (lines : Lines) : Type 0 where
  pub above2 : HoldsLine width plane y lines.above2.items
  pub above : HoldsLine width plane (y + 1) lines.above.items
  pub line : HoldsLine width plane (y + 2) lines.line.items

-- the choices of the last line of a plane, and of those of all planes
abbrev pub choices_of_plane : Parameters → SliceHead → ℕ → Lines → ℕ → List Choice
choices_of_plane params head plane lines width =
    choices_of_line (2 ^ params.bits) (plane_values params head plane) (first_slot params plane) lines.above2.items lines.above.items lines.line.items width

abbrev pub choices_of_planes : Parameters → SliceHead → Planes → ℕ → List Choice
choices_of_planes params head planes width =
    choices_of_plane params head 0 planes.luma width ++ choices_of_plane params head 1 planes.blue width ++ choices_of_plane params head 2 planes.red width

-- as all planes come to line y
pub record ComeTo (half width : ℕ) (samples : ℕ → ℕ → ℕ → ℕ) (y : ℕ) (planes : Planes) : Type 0 where
  pub luma : HoldsAbove width (samples 0) y planes.luma
  pub blue : HoldsAbove width (samples 1) y planes.blue
  pub red : HoldsAbove width (samples 2) y planes.red
  pub luma_ready : AreReady width (2 * half) planes.luma
  pub blue_ready : AreReady width (2 * half) planes.blue
  pub red_ready : AreReady width (2 * half) planes.red

-- the planes above the first line of a slice of this width
pub record AreBlank (width : ℕ) (planes : Planes) : Type 0 where
  pub len : ℕ
  pub long : width + 3 ≤ len
  pub luma : IsBlank len planes.luma
  pub blue : IsBlank len planes.blue
  pub red : IsBlank len planes.red

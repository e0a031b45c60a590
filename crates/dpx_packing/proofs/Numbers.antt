-- The numbers of a line and of a frame, as the layout tells them.
use Rattle.std.proofs.Common.{◌≡◌, ℕ, ◌+◌, ◌-◌, ◌*◌, ◌≤◌, ◌⊎◌, inl, inr, Bool, IsTrue, List, length, sym, ◌∙◌, ap, subst, arith}
use Rattle.std.proofs.lemmas.Bool.Decides.{nat_tests}
use Rattle.dpx_header.specs.declared.layout_type.Layout.{Layout}
use Rattle.dpx_header.specs.Layout.{IsWellFormed, is_depth, line_len, pads_in_line, image_size, sample_count, pad_count}
use Rattle.dpx_header.specs.Laws.{LayoutsAreBounded}
use Rattle.dpx_packing.specs.Blocks.{Form, repeated, with_spare, HaveLengths}
use Rattle.dpx_packing.specs.Units.{unit_of, units_in_line}
use Rattle.dpx_packing.specs.FrameParts.{spare_of, line_of, frame_of, pads_of_line, samples_of, pads_of, image_of}

-- a fact of each of the four depths
pub each-depth : (P : ℕ → Type 0) → P 8 → P 10 → P 12 → P 16 → (bits : ℕ) → IsTrue (is_depth bits) → P bits
each-depth P at8 at10 at12 at16 bits h =
    let which : (bits ≡ 8) ⊎ ((bits ≡ 10) ⊎ ((bits ≡ 12) ⊎ (bits ≡ 16))) = grind (arith, nat_tests) in
    elim which [
      | inl e ↦ subst P (sym e) at8
      | inr (inl e) ↦ subst P (sym e) at10
      | inr (inr (inl e)) ↦ subst P (sym e) at12
      | inr (inr (inr e)) ↦ subst P (sym e) at16
    ]

-- the units of a line hold its bytes, samples and pads
pub record UnitsFill (big : Bool) (width bits : ℕ) : Type 0 where
  pub bytes : units_in_line bits width * (unit_of big bits).bytes ≡ line_len bits width
  pub samples : units_in_line bits width * (unit_of big bits).samples ≡ 3 * width
  pub pads : units_in_line bits width * (unit_of big bits).pads ≡ pads_in_line bits width

pub units-fill : (big : Bool) (width bits : ℕ) → IsTrue (is_depth bits) → UnitsFill big width bits
unfolding line_len pads_in_line
units-fill big width bits h =
    each-depth (UnitsFill big width)
    (record { bytes = omega arith; samples = omega arith; pads = omega arith })
    (record { bytes = omega arith; samples = omega arith; pads = omega arith })
    (record { bytes = omega arith; samples = omega arith; pads = omega arith })
    (record { bytes = omega arith; samples = omega arith; pads = omega arith })
    bits h

pub record LineNumbers (layout : Layout) : Type 0 where
  pub bytes : (line_of layout).bytes ≡ layout.stride
  pub samples : (line_of layout).samples ≡ 3 * layout.width
  pub pads : (line_of layout).pads ≡ pads_of_line layout

pub line-numbers : LayoutsAreBounded → (layout : Layout) → IsWellFormed layout → LineNumbers layout
line-numbers bounded layout wf =
    let fill : UnitsFill layout.big layout.width layout.bits = units-fill layout.big layout.width layout.bits wf.depth in
    let low : line_len layout.bits layout.width ≤ layout.stride = (bounded layout wf).line_low in
    record {
      bytes = ap (λ n. n + (layout.stride - line_len layout.bits layout.width)) fill.bytes ∙ omega arith;
      samples = fill.samples;
      pads = ap (λ n. n + (layout.stride - line_len layout.bits layout.width)) fill.pads;
    }

-- an image, its samples and its pads are as long as the frame
pub record FrameNumbers (layout : Layout) : Type 0 where
  pub bytes : image_size layout ≡ (frame_of layout).bytes
  pub samples : sample_count layout ≡ (frame_of layout).samples
  pub pads : pad_count layout ≡ (frame_of layout).pads

pub frame-numbers : LayoutsAreBounded → (layout : Layout) → IsWellFormed layout → FrameNumbers layout
frame-numbers bounded layout wf =
    let numbers : LineNumbers layout = line-numbers bounded layout wf in
    let by_lines : layout.stride * layout.height ≡ layout.height * layout.stride = omega arith in
    let samples_by_lines : 3 * layout.width * layout.height ≡ layout.height * (3 * layout.width) = omega arith in
    record {
      bytes = by_lines ∙ ap (λ n. layout.height * n) (sym numbers.bytes);
      samples = samples_by_lines ∙ ap (λ n. layout.height * n) (sym numbers.samples);
      pads = ap (λ n. layout.height * n) (sym numbers.pads);
    }

pub frame-lengths : LayoutsAreBounded → (layout : Layout) (image samples pads : List ℕ) → IsWellFormed layout
    → length image ≡ image_size layout → length samples ≡ sample_count layout → length pads ≡ pad_count layout
    → HaveLengths (frame_of layout) image samples pads
frame-lengths bounded layout image samples pads wf image_len sample_len pad_len =
    let numbers : FrameNumbers layout = frame-numbers bounded layout wf in
    record { of_bytes = image_len ∙ numbers.bytes; of_samples = sample_len ∙ numbers.samples; of_pads = pad_len ∙ numbers.pads }

-- a line over the layout's unit, units and spare bytes is the layout's line
pub line-is : (layout : Layout) (form : Form) (units spare : ℕ) → form ≡ unit_of layout.big layout.bits
    → units ≡ units_in_line layout.bits layout.width → spare ≡ spare_of layout
    → with_spare (repeated form units) spare ≡ line_of layout
line-is layout form units spare unit_is units_is spare_is =
    ap (λ f. with_spare (repeated f units) spare) unit_is
    ∙ ap (λ n. with_spare (repeated (unit_of layout.big layout.bits) n) spare) units_is
    ∙ ap (λ n. with_spare (repeated (unit_of layout.big layout.bits) (units_in_line layout.bits layout.width)) n) spare_is

pub samples-are : (layout : Layout) (form : Form) (image : List ℕ) → form ≡ line_of layout
    → (repeated form layout.height).samples_of image ≡ samples_of layout image
unfolding samples_of
samples-are layout form image is = ap (λ f. (repeated f layout.height).samples_of image) is

pub pads-are : (layout : Layout) (form : Form) (image : List ℕ) → form ≡ line_of layout
    → (repeated form layout.height).pads_of image ≡ pads_of layout image
unfolding pads_of
pads-are layout form image is = ap (λ f. (repeated f layout.height).pads_of image) is

pub image-is : (layout : Layout) (form : Form) (samples pads : List ℕ) → form ≡ line_of layout
    → (repeated form layout.height).bytes_of samples pads ≡ image_of layout samples pads
unfolding image_of
image-is layout form samples pads is = ap (λ f. (repeated f layout.height).bytes_of samples pads) is

-- the lengths of an image, its samples and its pads are those of lines of the form
pub lengths-are : LayoutsAreBounded → (layout : Layout) (form : Form) (image samples pads : List ℕ) → form ≡ line_of layout
    → IsWellFormed layout → length image ≡ image_size layout → length samples ≡ sample_count layout
    → length pads ≡ pad_count layout → HaveLengths (repeated form layout.height) image samples pads
lengths-are bounded layout form image samples pads is wf image_len sample_len pad_len =
    subst (λ f. HaveLengths (repeated f layout.height) image samples pads) (sym is) (frame-lengths bounded layout image samples pads wf image_len sample_len pad_len)

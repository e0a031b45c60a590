-- Frames come apart and together again.
use Rattle.std.proofs.Common.{◌≡◌, ℕ, ◌+◌, ◌-◌, ◌*◌, ◌^◌, ◌<◌, ◌≤◌, List, length, take, drop, sym, ◌∙◌, ap, subst, arith, length-drop}
use Rattle.std.proofs.lemmas.List.{take_at, length-take-le, get_or_default}
use Rattle.std.proofs.lemmas.List.Elements.{All-take, All-drop}
use Rattle.std.proofs.Math.Nat.{mul-le-mul_right}
use Rattle.cook_bits.specs.Bits.{AreBytes}
use Rattle.dpx_header.specs.declared.layout_type.Layout.{Layout}
use Rattle.dpx_header.specs.Layout.{IsWellFormed, pads_in_line, image_size, sample_count, pad_count}
use Rattle.dpx_header.specs.Laws.{LayoutsAreBounded}
use Rattle.dpx_packing.specs.Blocks.{Form, of_blocks, repeated, EachFits}
use Rattle.dpx_packing.specs.Units.{unit_of, units_in_line, pad_limit, AreBelow, FitUnit}
use Rattle.dpx_packing.specs.FrameParts.{spare_of, line_of, frame_of, pads_of_line, samples_of, pads_of, image_of, SamplesFit, PadsFit}
use Rattle.dpx_packing.specs.Laws.{TakesApart, PutsTogether, IsLineAt}
use Rattle.dpx_packing.proofs.BlockRounds.{All-of_blocks, of_blocks-at}
use Rattle.dpx_packing.proofs.Rounds.{Rounds, repeated-rounds, with_spare-rounds, front-len}
use Rattle.dpx_packing.proofs.UnitRounds.{unit-rounds, unit-below, IsBelow}
use Rattle.dpx_packing.proofs.Numbers.{LineNumbers, line-numbers, units-fill, UnitsFill, FrameNumbers, frame-numbers}
use Rattle.dpx_packing.proofs.Fitting.{each-line-fits, units-pads}

pub are-below : (bytes : List ℕ) → AreBytes bytes → AreBelow 256 bytes
are-below bytes below k d low = subst (λ n. n < 256) (get_or_default bytes k 0 d low) (below k)

-- what fits a line of the layout
abbrev FitsLine : Layout → List ℕ → List ℕ → Type 0
FitsLine layout samples pads =
    EachFits (FitUnit (2 ^ layout.bits) (pad_limit layout.bits)) (unit_of layout.big layout.bits) (units_in_line layout.bits layout.width) samples (take (units_in_line layout.bits layout.width * (unit_of layout.big layout.bits).pads) pads)

-- a row of the layout's units
abbrev units_of : Layout → Form
units_of layout = repeated (unit_of layout.big layout.bits) (units_in_line layout.bits layout.width)

units-rounds : (layout : Layout) → IsWellFormed layout
    → Rounds (units_of layout) (EachFits (FitUnit (2 ^ layout.bits) (pad_limit layout.bits)) (unit_of layout.big layout.bits) (units_in_line layout.bits layout.width))
units-rounds layout wf =
    repeated-rounds (unit_of layout.big layout.bits) (FitUnit (2 ^ layout.bits) (pad_limit layout.bits)) (units_in_line layout.bits layout.width) (unit-rounds layout.big layout.bits wf.depth)

line-rounds : (layout : Layout) → IsWellFormed layout → Rounds (line_of layout) (FitsLine layout)
line-rounds layout wf =
    with_spare-rounds (units_of layout) (EachFits (FitUnit (2 ^ layout.bits) (pad_limit layout.bits)) (unit_of layout.big layout.bits) (units_in_line layout.bits layout.width)) (spare_of layout) (units-rounds layout wf)

frame-rounds : (layout : Layout) → IsWellFormed layout
    → Rounds (frame_of layout) (EachFits (FitsLine layout) (line_of layout) layout.height)
frame-rounds layout wf = repeated-rounds (line_of layout) (FitsLine layout) layout.height (line-rounds layout wf)

-- ---- limits

-- the samples of a line, and the pads of its units
line-samples-below : (layout : Layout) → IsWellFormed layout → (bytes : List ℕ)
    → length bytes ≡ (line_of layout).bytes → AreBelow 256 bytes
    → AreBelow (2 ^ layout.bits) ((line_of layout).samples_of bytes)
line-samples-below layout wf bytes long below =
    let unit : Form = unit_of layout.big layout.bits in
    let each : IsBelow unit (2 ^ layout.bits) (pad_limit layout.bits) = unit-below layout.big layout.bits wf.depth in
    All-of_blocks (λ b. b < 256) (λ s. s < 2 ^ layout.bits) unit.samples_of unit.bytes each.samples (units_in_line layout.bits layout.width)
    (take (units_of layout).bytes bytes) (front-len (units_of layout).bytes (spare_of layout) bytes long) (All-take (λ b. b < 256) (units_of layout).bytes bytes below)

line-pads-below : (layout : Layout) → IsWellFormed layout → (bytes : List ℕ) → length bytes ≡ (line_of layout).bytes
    → AreBelow 256 bytes
    → AreBelow (pad_limit layout.bits) (take (pads_in_line layout.bits layout.width) ((line_of layout).pads_of bytes))
line-pads-below layout wf bytes long below =
    let unit : Form = unit_of layout.big layout.bits in
    let row : List ℕ = take (units_of layout).bytes bytes in
    let row_long : length row ≡ (units_of layout).bytes = front-len (units_of layout).bytes (spare_of layout) bytes long in
    let each : IsBelow unit (2 ^ layout.bits) (pad_limit layout.bits) = unit-below layout.big layout.bits wf.depth in
    let fill : UnitsFill layout.big layout.width layout.bits = units-fill layout.big layout.width layout.bits wf.depth in
    let all : AreBelow (pad_limit layout.bits) ((units_of layout).pads_of row) =
    All-of_blocks (λ b. b < 256) (λ p. p < pad_limit layout.bits) unit.pads_of unit.bytes each.pads (units_in_line layout.bits layout.width) row row_long (All-take (λ b. b < 256) (units_of layout).bytes bytes below) in
    let held : length ((units_of layout).pads_of row) ≡ pads_in_line layout.bits layout.width = (units-rounds layout wf).pads_len row row_long ∙ fill.pads in
    subst (AreBelow (pad_limit layout.bits)) (sym (take_at ((units_of layout).pads_of row) (drop (units_of layout).bytes bytes) (pads_in_line layout.bits layout.width) held)) all

-- a line of an image
line-len : (size height y : ℕ) (image : List ℕ) → length image ≡ height * size → y < height
    → length (take size (drop (y * size) image)) ≡ size
line-len size height y image long low =
    let more : (y + 1) * size ≤ height * size = mul-le-mul_right size (omega arith) in
    let e : length (drop (y * size) image) ≡ length image - y * size = length-drop (y * size) image in
    length-take-le size (drop (y * size) image) (omega arith)

pub samples-fit : LayoutsAreBounded → (layout : Layout) (image : List ℕ) → IsWellFormed layout → length image ≡ image_size layout
    → AreBytes image → SamplesFit layout (samples_of layout image)
unfolding SamplesFit samples_of
samples-fit bounded layout image wf long bytes =
    All-of_blocks (λ b. b < 256) (λ s. s < 2 ^ layout.bits) (line_of layout).samples_of (line_of layout).bytes (line-samples-below layout wf) layout.height
    image (long ∙ (frame-numbers bounded layout wf).bytes) (are-below image bytes)

pub pads-fit : LayoutsAreBounded → (layout : Layout) (image : List ℕ) → IsWellFormed layout → length image ≡ image_size layout
    → AreBytes image → PadsFit layout (pads_of layout image)
unfolding PadsFit pads_of
pads-fit bounded layout image wf long bytes y y_low =
    let line : Form = line_of layout in
    let in_line : ℕ = pads_in_line layout.bits layout.width in
    let numbers : LineNumbers layout = line-numbers bounded layout wf in
    let exact : length image ≡ layout.height * line.bytes = long ∙ (frame-numbers bounded layout wf).bytes in
    let part : List ℕ = take line.bytes (drop (y * line.bytes) image) in
    let part_below : AreBelow 256 part =
    All-take (λ b. b < 256) line.bytes (drop (y * line.bytes) image) (All-drop (λ b. b < 256) (y * line.bytes) image (are-below image bytes)) in
    let all : List ℕ = of_blocks line.pads_of line.bytes layout.height image in
    let at : take (pads_of_line layout) (drop (y * pads_of_line layout) all) ≡ line.pads_of part =
    subst (λ n. take n (drop (y * n) all) ≡ line.pads_of part) numbers.pads
    (of_blocks-at line.pads_of line.bytes line.pads (line-rounds layout wf).pads_len layout.height y image exact y_low) in
    let low : in_line ≤ pads_of_line layout = omega arith in
    let e : take in_line (line.pads_of part) ≡ take in_line (drop (y * pads_of_line layout) all) =
    ap (take in_line) (sym at) ∙ units-pads in_line (pads_of_line layout) y all low in
    subst (AreBelow (pad_limit layout.bits)) e
    (line-pads-below layout wf part (line-len line.bytes layout.height y image exact y_low) part_below)

-- ---- lines by their places

-- what each line holds stands at its place, for samples and pads alike
part-at : (part : List ℕ → List ℕ) (size width count stride wide y : ℕ) (image : List ℕ)
    → ((xs : List ℕ) → length xs ≡ size → length (part xs) ≡ width) → size ≡ stride → width ≡ wide
    → length image ≡ count * size → y < count
    → take wide (drop (y * wide) (of_blocks part size count image)) ≡ part (take stride (drop (y * stride) image))
part-at part size width count stride wide y image each size_is width_is long low =
    subst (λ n. take n (drop (y * n) (of_blocks part size count image)) ≡ part (take stride (drop (y * stride) image))) width_is
    (of_blocks-at part size width each count y image long low ∙ ap (λ n. part (take n (drop (y * n) image))) size_is)

pub line-at : LayoutsAreBounded → (layout : Layout) (image : List ℕ) (y : ℕ) → IsWellFormed layout → length image ≡ image_size layout
    → y < layout.height → IsLineAt layout image y
unfolding samples_of pads_of
line-at bounded layout image y wf long low =
    let line : Form = line_of layout in
    let numbers : LineNumbers layout = line-numbers bounded layout wf in
    let rounds : Rounds (line_of layout) (FitsLine layout) = line-rounds layout wf in
    let exact : length image ≡ layout.height * line.bytes = long ∙ (frame-numbers bounded layout wf).bytes in
    record {
      samples = part-at line.samples_of line.bytes line.samples layout.height layout.stride (3 * layout.width) y image rounds.samples_len numbers.bytes numbers.samples exact low;
      pads = part-at line.pads_of line.bytes line.pads layout.height layout.stride (pads_of_line layout) y image rounds.pads_len numbers.bytes numbers.pads exact low;
    }

-- ---- the rounds

pub takes-apart : LayoutsAreBounded → (layout : Layout) (image : List ℕ) → IsWellFormed layout → length image ≡ image_size layout
    → AreBytes image → TakesApart layout image
unfolding samples_of pads_of image_of
takes-apart bounded layout image wf long bytes =
    let numbers : FrameNumbers layout = frame-numbers bounded layout wf in
    let rounds : Rounds (frame_of layout) (EachFits (FitsLine layout) (line_of layout) layout.height) = frame-rounds layout wf in
    let exact : length image ≡ (frame_of layout).bytes = long ∙ numbers.bytes in
    record {
      sample_len = rounds.samples_len image exact ∙ sym numbers.samples;
      pad_len = rounds.pads_len image exact ∙ sym numbers.pads;
      samples_fit = samples-fit bounded layout image wf long bytes;
      pads_fit = pads-fit bounded layout image wf long bytes;
      whole = rounds.whole image exact (are-below image bytes);
    }

pub puts-together : LayoutsAreBounded → (layout : Layout) (samples pads : List ℕ) → IsWellFormed layout
    → length samples ≡ sample_count layout → length pads ≡ pad_count layout → SamplesFit layout samples
    → PadsFit layout pads → PutsTogether layout samples pads
unfolding samples_of pads_of image_of SamplesFit PadsFit
puts-together bounded layout samples pads wf sample_len pad_len samples_fit pads_fit =
    let numbers : FrameNumbers layout = frame-numbers bounded layout wf in
    let rounds : Rounds (frame_of layout) (EachFits (FitsLine layout) (line_of layout) layout.height) = frame-rounds layout wf in
    let samples_exact : length samples ≡ (frame_of layout).samples = sample_len ∙ numbers.samples in
    let pads_exact : length pads ≡ (frame_of layout).pads = pad_len ∙ numbers.pads in
    let unit : Form = unit_of layout.big layout.bits in
    let fits : EachFits (FitsLine layout) (line_of layout) layout.height samples pads =
    each-line-fits (FitUnit (2 ^ layout.bits) (pad_limit layout.bits)) unit (units_in_line layout.bits layout.width) (spare_of layout) (2 ^ layout.bits) (pad_limit layout.bits) layout.height (pads_in_line layout.bits layout.width) (pads_of_line layout) samples pads
    (λ s p f. f) (units-fill layout.big layout.width layout.bits wf.depth).pads (line-numbers bounded layout wf).pads samples_fit pads_fit in
    record {
      image_len = rounds.bytes_len samples pads samples_exact pads_exact ∙ sym numbers.bytes;
      same_samples = rounds.samples samples pads samples_exact pads_exact fits;
      same_pads = rounds.pads samples pads samples_exact pads_exact fits;
    }

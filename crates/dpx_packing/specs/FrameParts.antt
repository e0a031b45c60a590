-- The samples and the pads of a frame's image, and the image that they make (SMPTE 268M, image data).
-- An image is its lines one after the other; a line is its units one after the other, and then the
-- bytes of the stride past them.
use Rattle.std.specs.Prelude.{ℕ, ◌+◌, ◌-◌, ◌*◌, ◌^◌, ◌<◌, List, take, drop}
use Rattle.dpx_header.specs.declared.layout_type.Layout.{Layout}
use Rattle.dpx_header.specs.Layout.{line_len, pads_in_line}
use Rattle.dpx_packing.specs.Blocks.{Form, repeated, with_spare}
use Rattle.dpx_packing.specs.Units.{unit_of, units_in_line, pad_limit, AreBelow}

-- the bytes of the stride past the line
abbrev pub spare_of : Layout → ℕ
spare_of layout = layout.stride - line_len layout.bits layout.width

abbrev pub line_of : Layout → Form
line_of layout =
    with_spare (repeated (unit_of layout.big layout.bits) (units_in_line layout.bits layout.width)) (spare_of layout)

abbrev pub frame_of : Layout → Form
frame_of layout = repeated (line_of layout) layout.height

-- the samples of an image in file order: line by line, red, green and blue of each pixel
unfoldable pub samples_of : Layout → List ℕ → List ℕ
samples_of layout image = (frame_of layout).samples_of image

-- the pads of an image: line by line, those of the units and then the bytes past the line
unfoldable pub pads_of : Layout → List ℕ → List ℕ
pads_of layout image = (frame_of layout).pads_of image

-- the image with these samples and pads
unfoldable pub image_of : Layout → List ℕ → List ℕ → List ℕ
image_of layout samples pads = (frame_of layout).bytes_of samples pads

-- each sample is below 2 ^ bits
unfoldable pub SamplesFit : Layout → List ℕ → Type 0
SamplesFit layout samples = AreBelow (2 ^ layout.bits) samples

-- the pads of a line
abbrev pub pads_of_line : Layout → ℕ
pads_of_line layout = pads_in_line layout.bits layout.width + spare_of layout

-- of each line, the pads of the units are below the limit: two bits at 10 bits and four at 12; the
-- bytes past the line may have any value
unfoldable pub PadsFit : Layout → List ℕ → Type 0
PadsFit layout pads =
    (y : ℕ) → y < layout.height
    → AreBelow (pad_limit layout.bits) (take (pads_in_line layout.bits layout.width) (drop (y * pads_of_line layout) pads))

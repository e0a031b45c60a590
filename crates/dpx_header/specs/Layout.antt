-- The layout of a DPX file's image (SMPTE 268M) and the lengths that follow from it. An image is one
-- element of red, green and blue samples, line after line.
use Rattle.std.specs.Prelude.{ℕ, ◌+◌, ◌-◌, ◌*◌, ◌/◌, ◌≤◌, ◌==◌, ◌&&◌, ◌||◌, Bool, true, false, nat_le, if◌then◌else◌, IsTrue, List, [], ◌∷◌, ◌++◌, Option, Some, None, Result, Ok, Err}
use Rattle.dpx_header.specs.declared.layout_type.Layout.{Layout}
use Rattle.dpx_header.specs.declared.why.DpxWhy.{DpxWhy}
use Rattle.dpx_header.specs.declared.why.DpxWhy.TheVariants as why
use Rattle.dpx_header.specs.declared.header.Header.{Header}
use Rattle.dpx_header.specs.Header.{has_magic, header_of}

-- ---- lines

-- the bytes of a line of so many pixels (image element data, packing): a byte a sample at 8 bits; a
-- word of 32 bits a pixel at 10 bits, filled by method A; a word of 16 bits a sample at 12 bits,
-- filled by method A, and at 16 bits
unfoldable pub line_len : ℕ → ℕ → ℕ
line_len bits width = if bits == 8 then 3 * width else if bits == 10 then 4 * width else 6 * width

-- the fill bits' values in a line: one a pixel at 10 bits, one a sample at 12 bits
unfoldable pub pads_in_line : ℕ → ℕ → ℕ
pads_in_line bits width = if bits == 10 then width else if bits == 12 then 3 * width else 0

-- rounded up to a multiple of 4: lines may end at a boundary of 32 bits
abbrev pub aligned : ℕ → ℕ
aligned n = (n + 3) / 4 * 4

-- ---- well-formed layouts

abbrev pub is_size : ℕ → ℕ → Bool
is_size width height =
    nat_le 1 width && nat_le width 16384 && nat_le 1 height && nat_le height 16384 && nat_le (width * height) 67108864

abbrev pub is_depth : ℕ → Bool
is_depth bits = bits == 8 || bits == 10 || bits == 12 || bits == 16

abbrev pub is_stride : ℕ → ℕ → Bool
is_stride line stride = stride == line || stride == aligned line

pub record IsWellFormed (layout : Layout) : Type 0 where
  pub width_low : 1 ≤ layout.width
  pub width_high : layout.width ≤ 16384
  pub height_low : 1 ≤ layout.height
  pub height_high : layout.height ≤ 16384
  pub pixels : layout.width * layout.height ≤ 67108864
  pub depth : IsTrue (is_depth layout.bits)
  pub stride : IsTrue (is_stride (line_len layout.bits layout.width) layout.stride)

-- ---- lengths

-- the bytes of the image
abbrev pub image_size : Layout → ℕ
image_size layout = layout.stride * layout.height

-- the samples of the image
abbrev pub sample_count : Layout → ℕ
sample_count layout = 3 * layout.width * layout.height

-- the values in the image beside its samples: line by line those of the fill bits, then the bytes
-- of the stride past the line
abbrev pub pad_count : Layout → ℕ
pad_count layout =
    layout.height * (pads_in_line layout.bits layout.width + (layout.stride - line_len layout.bits layout.width))

-- ---- the rules, for a file of so many bytes

-- filled by method A; where a sample fills its word, packed is the same
abbrev pub is_packing : ℕ → ℕ → Bool
is_packing bits packing = packing == 1 || ((bits == 8 || bits == 16) && packing == 0)

-- whether the lines fit into the file at this stride
abbrev pub fits : ℕ → Header → ℕ → Bool
fits stride h len = nat_le (h.offset + stride * h.height) len

-- Each rule with what is told where it is broken: first those on the file,
abbrev pub file_rules : List ℕ → ℕ → List (Bool × DpxWhy)
file_rules head len =
    (nat_le 1664 len, why.Short)
    ∷ (has_magic true head || has_magic false head, why.Magic)
    ∷ []

-- then those on the image's place, number and size,
abbrev pub image_rules : Header → ℕ → List (Bool × DpxWhy)
image_rules h len =
    (nat_le 1664 h.offset && nat_le h.offset len, why.Offset)
    ∷ (h.elements == 1, why.Elements)
    ∷ (is_size h.width h.height, why.Size)
    ∷ []

-- and last those on how its samples lie. A field whose bits are all ones is undefined.
abbrev pub sample_rules : Header → ℕ → List (Bool × DpxWhy)
sample_rules h len =
    (h.descriptor == 50, why.Descriptor)
    ∷ (is_depth h.depth, why.Depth)
    ∷ (is_packing h.depth h.packing, why.Packing)
    ∷ (h.encoding == 0 || h.encoding == 65535, why.Encoding)
    ∷ (h.line_padding == 0 || h.line_padding == 4294967295, why.LinePadding)
    ∷ (fits (line_len h.depth h.width) h len, why.Truncated)
    ∷ []

abbrev pub rules : List ℕ → Header → ℕ → List (Bool × DpxWhy)
rules head h len = file_rules head len ++ image_rules h len ++ sample_rules h len

-- the first that is broken
abbrev pub first_broken : List (Bool × DpxWhy) → Option DpxWhy
first_broken [] = None
first_broken (rule ∷ others) = if rule.0 then first_broken others else Some rule.1

-- ---- the layout

-- lines that are aligned where the file has room for them, else one right after the other
abbrev pub stride_of : Header → ℕ → ℕ
stride_of h len =
    let line = line_len h.depth h.width in
    if fits (aligned line) h len then aligned line else line

abbrev pub layout_from : Header → ℕ → Layout
layout_from h len =
    record {
      big = h.big;
      bits = h.depth;
      width = h.width;
      height = h.height;
      head_len = h.offset;
      stride = stride_of h len;
    }

abbrev pub unless_broken : Layout → Option DpxWhy → Result Layout DpxWhy
unless_broken layout None = Ok layout
unless_broken layout (Some broken) = Err broken

-- the layout of a file of `len` bytes that begins with `head`, or the first rule that it breaks
unfoldable pub layout_of : List ℕ → ℕ → Result Layout DpxWhy
layout_of head len =
    let h = header_of head in
    unless_broken (layout_from h len) (first_broken (rules head h len))

-- What holds of layouts.
use Rattle.std.specs.Prelude.{◌≡◌, ℕ, ◌+◌, ◌^◌, ◌≤◌, ◌<◌, List, ◌++◌, length, take, Ok}
use Rattle.dpx_header.specs.declared.layout_type.Layout.{Layout}
use Rattle.dpx_header.specs.Layout.{IsWellFormed, image_size, layout_of, line_len, pad_count, sample_count}

-- what stands past the first 1,664 bytes doesn't count
abbrev pub FirstBytesDecide : Type 0
FirstBytesDecide = (bytes : List ℕ) (len count : ℕ) → 1664 ≤ count → layout_of (take count bytes) len ≡ layout_of bytes len

-- nor does what follows a head of at least so many bytes
abbrev pub FollowingBytesDont : Type 0
FollowingBytesDont = (head rest : List ℕ) (len : ℕ) → 1664 ≤ length head → layout_of (head ++ rest) len ≡ layout_of head len

-- a layout's image begins behind the header and lies in a file of so many bytes
pub record InFile (len : ℕ) (layout : Layout) : Type 0 where
  pub after_header : 1664 ≤ layout.head_len
  pub whole : layout.head_len + image_size layout ≤ len

-- each layout of a file is well formed, and its image lies in the file
abbrev pub LayoutsAreFormed : Type 0
LayoutsAreFormed = (head : List ℕ) (len : ℕ) (layout : Layout) → layout_of head len ≡ Ok layout → IsWellFormed layout

abbrev pub ImagesAreInFiles : Type 0
ImagesAreInFiles = (head : List ℕ) (len : ℕ) (layout : Layout) → layout_of head len ≡ Ok layout → InFile len layout

-- the lengths of a frame: a line fits its stride, and there are far fewer than 2^32 samples, pads and bytes
pub record HasBounds (layout : Layout) : Type 0 where
  pub line_low : line_len layout.bits layout.width ≤ layout.stride
  pub line_high : layout.stride ≤ line_len layout.bits layout.width + 3
  pub samples : sample_count layout < 2 ^ 28
  pub pads : pad_count layout < 2 ^ 28
  pub image : image_size layout < 2 ^ 29

abbrev pub LayoutsAreBounded : Type 0
LayoutsAreBounded = (layout : Layout) → IsWellFormed layout → HasBounds layout

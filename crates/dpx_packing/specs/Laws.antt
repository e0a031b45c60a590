-- What holds of the samples and pads of frames.
use Rattle.std.specs.Prelude.{◌≡◌, ℕ, ◌+◌, ◌*◌, ◌<◌, List, ◌++◌, length, take, drop, Ok, Some}
use Rattle.cook_bits.specs.Bits.{AreBytes}
use Rattle.dpx_header.specs.declared.layout_type.Layout.{Layout}
use Rattle.dpx_header.specs.Layout.{IsWellFormed, image_size, sample_count, pad_count, layout_of}
use Rattle.dpx_packing.specs.FrameParts.{line_of, pads_of_line, samples_of, pads_of, image_of, SamplesFit, PadsFit}
use Rattle.dpx_packing.specs.PadForms.{pad_form_of, pads_read}

-- an image's samples and pads: they have the layout's lengths, they fit, and they make the image
pub record TakesApart (layout : Layout) (image : List ℕ) : Type 0 where
  pub sample_len : length (samples_of layout image) ≡ sample_count layout
  pub pad_len : length (pads_of layout image) ≡ pad_count layout
  pub samples_fit : SamplesFit layout (samples_of layout image)
  pub pads_fit : PadsFit layout (pads_of layout image)
  pub whole : image_of layout (samples_of layout image) (pads_of layout image) ≡ image

-- the image of samples and pads: it has the layout's length, and these are what it holds
pub record PutsTogether (layout : Layout) (samples pads : List ℕ) : Type 0 where
  pub image_len : length (image_of layout samples pads) ≡ image_size layout
  pub same_samples : samples_of layout (image_of layout samples pads) ≡ samples
  pub same_pads : pads_of layout (image_of layout samples pads) ≡ pads

abbrev pub ImagesComeApart : Type 0
ImagesComeApart =
    (layout : Layout) (image : List ℕ) → IsWellFormed layout → length image ≡ image_size layout → AreBytes image
    → TakesApart layout image

abbrev pub ImagesComeTogether : Type 0
ImagesComeTogether =
    (layout : Layout) (samples pads : List ℕ) → IsWellFormed layout
    → length samples ≡ sample_count layout → length pads ≡ pad_count layout
    → SamplesFit layout samples → PadsFit layout pads
    → PutsTogether layout samples pads

-- The line of an image at a height: its bytes begin at so many strides, and what stands at its place in the image's
-- samples and in its pads is what these bytes hold.
pub record IsLineAt (layout : Layout) (image : List ℕ) (y : ℕ) : Type 0 where
  pub samples :
      take (3 * layout.width) (drop (y * (3 * layout.width)) (samples_of layout image))
      ≡ (line_of layout).samples_of (take layout.stride (drop (y * layout.stride) image))
  pub pads :
      take (pads_of_line layout) (drop (y * pads_of_line layout) (pads_of layout image))
      ≡ (line_of layout).pads_of (take layout.stride (drop (y * layout.stride) image))

abbrev pub LinesAreAtStrides : Type 0
LinesAreAtStrides =
    (layout : Layout) (image : List ℕ) (y : ℕ) → IsWellFormed layout → length image ≡ image_size layout
    → y < layout.height → IsLineAt layout image y

-- the bytes before the image, those of the image and those behind it
abbrev pub head_of : Layout → List ℕ → List ℕ
head_of layout file = take layout.head_len file

abbrev pub image_in : Layout → List ℕ → List ℕ
image_in layout file = take (image_size layout) (drop layout.head_len file)

abbrev pub tail_of : Layout → List ℕ → List ℕ
tail_of layout file = drop (layout.head_len + image_size layout) file

-- A file of the layout is its head, the image of its samples and pads, and its tail; its image comes
-- apart; the form of its pads is read as these; and the head alone, with the file's length, tells the layout.
pub record IsFrameOf (layout : Layout) (file : List ℕ) : Type 0 where
  pub image_len : length (image_in layout file) ≡ image_size layout
  pub parts : TakesApart layout (image_in layout file)
  pub pads_told :
      pads_read (pad_form_of (pads_of layout (image_in layout file))) (pad_count layout)
      ≡ Some (pads_of layout (image_in layout file))
  pub whole :
      head_of layout file
      ++ image_of layout (samples_of layout (image_in layout file)) (pads_of layout (image_in layout file))
      ++ tail_of layout file
      ≡ file
  pub head_tells : layout_of (head_of layout file) (length file) ≡ Ok layout

abbrev pub FramesAreTheirParts : Type 0
FramesAreTheirParts =
    (layout : Layout) (file : List ℕ) → layout_of file (length file) ≡ Ok layout → AreBytes file → IsFrameOf layout file

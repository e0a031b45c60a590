-- Files are their heads, images and tails.
use Rattle.std.proofs.Common.{◌≡◌, ℕ, zero, suc, ◌+◌, ◌-◌, ◌^◌, ◌<◌, ◌≤◌, List, [], ◌∷◌, ◌++◌, length, drop, Some, sym, ◌∙◌, ap, arith, length-drop}
use Rattle.std.proofs.lemmas.List.{length-take-le, take-append-drop}
use Rattle.std.proofs.lemmas.List.Elements.{All-take, All-drop}
use Rattle.std.proofs.Math.Seq.{take-add}
use Rattle.cook_bits.specs.Bits.{AreBytes}
use Rattle.dpx_header.specs.declared.layout_type.Layout.{Layout}
use Rattle.dpx_header.specs.Layout.{IsWellFormed, image_size, pad_count}
use Rattle.dpx_header.specs.Laws.{FirstBytesDecide, LayoutsAreFormed, ImagesAreInFiles, InFile, LayoutsAreBounded}
use Rattle.dpx_packing.specs.FrameParts.{pads_of}
use Rattle.dpx_packing.specs.Units.{AreBelow}
use Rattle.dpx_packing.specs.PadForms.{pad_form_of, pads_read}
use Rattle.dpx_packing.specs.PadLaws.{WrittenPadsAreRead}
use Rattle.dpx_packing.specs.Laws.{TakesApart, FramesAreTheirParts, head_of, image_in, tail_of}
use Rattle.dpx_packing.proofs.FrameRounds.{are-below, takes-apart}

-- numbers below 256 are bytes
are-bytes : (xs : List ℕ) → AreBelow 256 xs → AreBytes xs
are-bytes [] below i = omega arith
are-bytes (x ∷ xs) below zero = below 0 0 (omega arith)
are-bytes (x ∷ xs) below (suc i) = are-bytes xs (λ k d low. below (suc k) d (omega arith)) i

image-bytes : (layout : Layout) (file : List ℕ) → AreBytes file → AreBytes (image_in layout file)
image-bytes layout file bytes =
    are-bytes (image_in layout file)
    (All-take (λ b. b < 256) (image_size layout) (drop layout.head_len file)
    (All-drop (λ b. b < 256) layout.head_len file (are-below file bytes)))

image-len : (layout : Layout) (file : List ℕ) → layout.head_len + image_size layout ≤ length file
    → length (image_in layout file) ≡ image_size layout
image-len layout file room =
    let e : length (drop layout.head_len file) ≡ length file - layout.head_len = length-drop layout.head_len file in
    length-take-le (image_size layout) (drop layout.head_len file) (omega arith)

pieces : (layout : Layout) (file : List ℕ) → head_of layout file ++ image_in layout file ++ tail_of layout file ≡ file
pieces layout file =
    ap (λ front. front ++ tail_of layout file) (sym (take-add layout.head_len (image_size layout) file))
    ∙ take-append-drop (layout.head_len + image_size layout) file

pads-told : WrittenPadsAreRead → (pads : List ℕ) (count : ℕ) → length pads ≡ count → count < 2 ^ 28
    → pads_read (pad_form_of pads) count ≡ Some pads
pads-told read pads count e few =
    let told : pads_read (pad_form_of pads) (length pads) ≡ Some pads = read pads (omega arith) in
    ap (λ (n : ℕ). pads_read (pad_form_of pads) n) (sym e) ∙ told

pub frames-are-their-parts : FirstBytesDecide → LayoutsAreFormed → ImagesAreInFiles → LayoutsAreBounded → WrittenPadsAreRead → FramesAreTheirParts
frames-are-their-parts decide formed in_files bounded read layout file is bytes =
    let wf : IsWellFormed layout = formed file (length file) layout is in
    let in_file : InFile (length file) layout = in_files file (length file) layout is in
    let image_len : length (image_in layout file) ≡ image_size layout = image-len layout file in_file.whole in
    let parts : TakesApart layout (image_in layout file) = takes-apart bounded layout (image_in layout file) wf image_len (image-bytes layout file bytes) in
    record {
      image_len = image_len;
      parts = parts;
      pads_told = pads-told read (pads_of layout (image_in layout file)) (pad_count layout) parts.pad_len (bounded layout wf).pads;
      whole = ap (λ image. head_of layout file ++ image ++ tail_of layout file) parts.whole ∙ pieces layout file;
      head_tells = decide file (length file) layout.head_len in_file.after_header ∙ is;
    }

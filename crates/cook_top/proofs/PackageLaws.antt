-- A package shows its directory.
use Rattle.std.proofs.Common.{◌≡◌, ℕ, ◌≤◌, List, [], ◌∷◌, ◌++◌, inl, map, Ok, refl, sym, ap, ◌∙◌, subst, append_assoc}
use Rattle.std.specs.Int.Count.{count_leading_zeros}
use Rattle.cook_bits.specs.Names.{File}
use Rattle.ebml_core.specs.Element.{element, uint_bytes, byte_count, least_from}
use Rattle.ebml_core.specs.Reading.{head_at, id_at, size_at, size_meant, vint_len}
use Rattle.ebml_core.specs.declared.parts.Size.TheVariants.{Unknown}
use Rattle.matroska_names.specs.declared.ids.TheConstants.{ATTACHMENTS, EBML, INFO, SEGMENT}
use Rattle.cook_pack.specs.Offence.{IsInProfile}
use Rattle.matroska_write.specs.Header.{ebml_content, info_content, unknown_size, header_bytes}
use Rattle.matroska_write.specs.HeaderLaws.{short_ebml}
use Rattle.cook_pack.specs.Package.{attachments_bytes, attachments_of, other_record, package_of}
use Rattle.cook_pack.proofs.PlannedLaws.{others-all}
use Rattle.matroska_read.specs.Outline.{outline_of}
use Rattle.matroska_read.specs.Spelled.{IsSegmentHead, SpellsFile, spells_file, SpelledIsOutline, outline_said}
use Rattle.cook_top.specs.RoundTrip.{shown_file, shown_side, outline_shown}
use Rattle.cook_top.proofs.ProfileLaws.{Keeps, keeps}
use Rattle.cook_top.proofs.SpelledPackage.{says_header, says_segment, segment_said}

-- the head of the Segment, whose size is unknown
abbrev segment_piece : List ℕ
segment_piece = uint_bytes SEGMENT ++ unknown_size

is_segment_head : (len : ℕ) → IsSegmentHead segment_piece len
unfolding head_at id_at size_at size_meant vint_len uint_bytes byte_count least_from count_leading_zeros
is_segment_head len = record { size = Unknown; reads = refl; ends = inl refl }

-- what a package is made of
package-is : (directory : List File) (rate : ℕ) → package_of directory rate ≡ element EBML ebml_content ++ (segment_piece ++ (element INFO info_content ++ element ATTACHMENTS (attachments_of directory)))
unfolding package_of attachments_bytes header_bytes
package-is directory rate =
    append_assoc (element EBML ebml_content ++ segment_piece) (element INFO info_content) (element ATTACHMENTS (attachments_of directory))
    ∙ append_assoc (element EBML ebml_content) segment_piece (element INFO info_content ++ element ATTACHMENTS (attachments_of directory))

package_spells : (directory : List File) (rate : ℕ) → Keeps directory → SpellsFile (package_of directory rate) (outline_said (segment_said directory))
package_spells directory rate keeps =
    subst (λ (bytes : List ℕ). SpellsFile bytes (outline_said (segment_said directory))) (sym (package-is directory rate))
    (spells_file ebml_content segment_piece (element INFO info_content ++ element ATTACHMENTS (attachments_of directory)) (segment_said directory) (record { known = refl; small = short_ebml }) says_header (is_segment_head _) (says_segment directory keeps))

-- what is shown is the directory's, whose files all are attached
shown_alone : (directory : List File) (rate : ℕ) → outline_said (segment_said directory) ≡ outline_shown directory rate
unfolding outline_shown
shown_alone directory rate = ap (λ (l : List File). record { tracks = []; blocks = []; files = map shown_file l ++ shown_side (map other_record directory) ∷ [] }) (sym (others-all directory))

pub package_shows : SpelledIsOutline → (directory : List File) (rate : ℕ) → IsInProfile directory → 1 ≤ rate → rate ≤ 240 → outline_of (package_of directory rate) ≡ Ok (outline_shown directory rate)
package_shows spelled directory rate profile low high =
    spelled (package_of directory rate) (outline_said (segment_said directory)) (package_spells directory rate (keeps directory profile)) ∙ ap Ok (shown_alone directory rate)

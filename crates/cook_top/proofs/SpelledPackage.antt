-- The parts of a package, spelled of what they say.
use Rattle.std.proofs.Common.{◌≡◌, ℕ, ◌+◌, ◌^◌, ◌≤◌, Bool, true, false, List, [], ◌∷◌, ◌++◌, length, map, Some, None, refl, sym, subst, arith, lit<, append_assoc, append-nil}
use Rattle.std.specs.List.{AllByRecursion}
use Rattle.cook_bits.specs.Names.{File}
use Rattle.ebml_core.specs.Element.{element, uint_element, uint_bytes, byte_count, least_from}
use Rattle.ebml_core.specs.Heads.{length-uint_bytes, byte_count-le}
use Rattle.matroska_names.specs.declared.ids.TheConstants.{ATTACHED_FILE, ATTACHMENTS, DOC_TYPE, DOC_TYPE_READ_VERSION, DOC_TYPE_VERSION, EBML_MAX_ID_LENGTH, EBML_MAX_SIZE_LENGTH, EBML_READ_VERSION, EBML_VERSION, FILE_DATA, FILE_MEDIA_TYPE, FILE_NAME, FILE_UID, INFO}
use Rattle.matroska_names.specs.declared.texts.TheConstants.{MATROSKA, SIDE_NAME}
use Rattle.reversal.specs.SideData.{side_data_of}
use Rattle.matroska_write.specs.Attached.{media_type, attached_fields, attached_file}
use Rattle.matroska_write.specs.Header.{ebml_content, info_content}
use Rattle.matroska_write.specs.HeaderLaws.{short_info}
use Rattle.cook_pack.specs.Package.{attached_from, attachments_of, other_record}
use Rattle.matroska_read.specs.Outline.{is_understood, bounds_of, no_doc_type}
use Rattle.matroska_read.specs.Places.{Attached}
use Rattle.matroska_read.specs.Spelled.{CanSpell, Says, says_nothing, says_element, says_both, TellsHeader, tells_doc_type, tells_number, FileSaid, no_file_said, TellsFile, tells_name, tells_media_type, tells_content, tells_no_part, TellsAttachments, tells_file, SegmentSaid, no_segment_said, TellsSegment, tells_attachments, tells_nothing}
use Rattle.matroska_read.specs.declared.parts.HeaderSeen.{HeaderSeen}
use Rattle.cook_top.specs.RoundTrip.{shown_file, shown_side}
use Rattle.cook_top.proofs.ProfileLaws.{Keeps}
use Rattle.cook_top.proofs.AttachmentLengths.{IsSmall, attached_content, attachments-flat, length-attached_content-le, length-attachments-le, length-side_data-le, short_media, small_files, with_side}

-- ---- the EBML header

abbrev known_type : HeaderSeen
known_type = record { doc_type = true }

number : (said : HeaderSeen) (id value : ℕ) → CanSpell id (uint_bytes value) → TellsHeader said id (uint_bytes value) said → Says TellsHeader said (uint_element id value) said
unfolding uint_element
number said id value can tells = says_element said said id (uint_bytes value) can tells

pub says_header : Says TellsHeader no_doc_type ebml_content known_type
unfolding ebml_content uint_bytes byte_count least_from bounds_of is_understood
says_header =
    says_both no_doc_type known_type known_type _ _ (says_both no_doc_type known_type known_type _ _ (says_both no_doc_type no_doc_type known_type _ _ (says_both no_doc_type no_doc_type no_doc_type _ _ (says_both no_doc_type no_doc_type no_doc_type _ _ (says_both no_doc_type no_doc_type no_doc_type _ _
    (number no_doc_type EBML_VERSION 1 (record { known = refl; small = lit< tt }) (tells_number no_doc_type EBML_VERSION (uint_bytes 1) refl tt))
    (number no_doc_type EBML_READ_VERSION 1 (record { known = refl; small = lit< tt }) (tells_number no_doc_type EBML_READ_VERSION (uint_bytes 1) refl refl)))
    (number no_doc_type EBML_MAX_ID_LENGTH 4 (record { known = refl; small = lit< tt }) (tells_number no_doc_type EBML_MAX_ID_LENGTH (uint_bytes 4) refl refl)))
    (number no_doc_type EBML_MAX_SIZE_LENGTH 8 (record { known = refl; small = lit< tt }) (tells_number no_doc_type EBML_MAX_SIZE_LENGTH (uint_bytes 8) refl refl)))
    (says_element no_doc_type known_type DOC_TYPE MATROSKA.now (record { known = refl; small = lit< tt }) (tells_doc_type no_doc_type MATROSKA.now refl)))
    (number known_type DOC_TYPE_VERSION 4 (record { known = refl; small = lit< tt }) (tells_number known_type DOC_TYPE_VERSION (uint_bytes 4) refl tt)))
    (number known_type DOC_TYPE_READ_VERSION 2 (record { known = refl; small = lit< tt }) (tells_number known_type DOC_TYPE_READ_VERSION (uint_bytes 2) refl refl))

-- ---- an attached file

abbrev name_said : List ℕ → FileSaid
name_said name = record { name = Some name; media_type = None; content = None }

abbrev type_said : List ℕ → Bool → FileSaid
type_said name side = record { name = Some name; media_type = Some (media_type side); content = None }

abbrev file_said : List ℕ → Bool → List ℕ → FileSaid
file_said name side content = record { name = Some name; media_type = Some (media_type side); content = Some content }

says_fields : (name : List ℕ) (side : Bool) (uid : ℕ) → length name ≤ 2000 → Says TellsFile no_file_said (attached_fields name side uid) (type_said name side)
unfolding attached_fields uint_element
says_fields name side uid short =
    says_both no_file_said (type_said name side) (type_said name side) _ _
    (says_both no_file_said (name_said name) (type_said name side) _ _
    (says_element no_file_said (name_said name) FILE_NAME name (record { known = refl; small = omega arith }) (tells_name no_file_said name))
    (says_element (name_said name) (type_said name side) FILE_MEDIA_TYPE (media_type side) (record { known = refl; small = omega (arith, short_media side) }) (tells_media_type (name_said name) (media_type side))))
    (says_element (type_said name side) (type_said name side) FILE_UID (uint_bytes uid) (record { known = refl; small = omega (arith, length-uint_bytes uid, byte_count-le uid) })
    (tells_no_part (type_said name side) FILE_UID (uint_bytes uid) (record { name = refl; media_type = refl; content = refl })))

says_file : (name : List ℕ) (side : Bool) (uid : ℕ) (content : List ℕ) → length name ≤ 2000 → length content ≤ 2 ^ 55 → Says TellsFile no_file_said (attached_content name side uid content) (file_said name side content)
says_file name side uid content short small =
    says_both no_file_said (type_said name side) (file_said name side content) (attached_fields name side uid) (element FILE_DATA content) (says_fields name side uid short)
    (says_element (type_said name side) (file_said name side content) FILE_DATA content (record { known = refl; small = omega arith }) (tells_content (type_said name side) content))

-- ---- the attachments

says_attached : (listed : List Attached) (name : List ℕ) (side : Bool) (uid : ℕ) (content : List ℕ) → length name ≤ 2000 → length content ≤ 2 ^ 55
    → Says TellsAttachments listed (attached_file name side uid content) (listed ++ record { name = name; side = side; content = content } ∷ [])
unfolding attached_file
says_attached listed name true uid content short small =
    says_element listed _ ATTACHED_FILE (attached_content name true uid content) (record { known = refl; small = omega (arith, length-attached_content-le name true uid content) })
    (tells_file listed (attached_content name true uid content) name (media_type true) content (says_file name true uid content short small))
says_attached listed name false uid content short small =
    says_element listed _ ATTACHED_FILE (attached_content name false uid content) (record { known = refl; small = omega (arith, length-attached_content-le name false uid content) })
    (tells_file listed (attached_content name false uid content) name (media_type false) content (says_file name false uid content short small))

says_files : (listed : List Attached) (uid : ℕ) (files : List File) → AllByRecursion IsSmall files → Says TellsAttachments listed (attached_from uid files) (listed ++ map shown_file files)
unfolding attached_from
says_files listed uid [] small = subst (λ (l : List Attached). Says TellsAttachments listed [] l) (sym (append-nil listed)) (says_nothing listed)
says_files listed uid (file ∷ files) small =
    let next = listed ++ shown_file file ∷ [] in
    let name = small.0.name in
    let content = small.0.content in
    says_both listed next _ (attached_file file.0 false uid file.1) (attached_from (uid + 1) files) (says_attached listed file.0 false uid file.1 (omega arith) (omega arith))
    (subst (λ (l : List Attached). Says TellsAttachments next (attached_from (uid + 1) files) l) (append_assoc listed (shown_file file ∷ []) (map shown_file files)) (says_files next (uid + 1) files small.1))

-- all files of a directory, which are attached as they are, and its side data
abbrev pub all_shown : List File → List Attached
all_shown directory = map shown_file directory ++ shown_side (map other_record directory) ∷ []

says_attachments : (directory : List File) → Keeps directory → Says TellsAttachments [] (attachments_of directory) (all_shown directory)
unfolding with_side
says_attachments directory keeps =
    let count : length SIDE_NAME.now ≡ 8 = refl in
    let most = length-side_data-le directory keeps.relative in
    let few = keeps.few in
    subst (λ (bytes : List ℕ). Says TellsAttachments [] bytes (all_shown directory)) (sym (attachments-flat directory))
    (says_both [] (map shown_file directory) (all_shown directory) (attached_from 1 directory) _ (says_files [] 1 directory (small_files directory keeps))
    (says_attached (map shown_file directory) SIDE_NAME.now true (length directory + 1) (side_data_of (map other_record directory)) (omega arith) (omega arith)))

-- ---- the Segment

abbrev pub segment_said : List File → SegmentSaid
segment_said directory = record { listed = false; tracks = []; blocks = []; files = Some (all_shown directory) }

pub says_segment : (directory : List File) → Keeps directory → Says TellsSegment no_segment_said (element INFO info_content ++ element ATTACHMENTS (attachments_of directory)) (segment_said directory)
says_segment directory keeps =
    says_both no_segment_said no_segment_said (segment_said directory) (element INFO info_content) (element ATTACHMENTS (attachments_of directory))
    (says_element no_segment_said no_segment_said INFO info_content (record { known = refl; small = short_info }) (tells_nothing no_segment_said INFO info_content (record { tracks = refl; cluster = refl; attachments = refl })))
    (says_element no_segment_said (segment_said directory) ATTACHMENTS (attachments_of directory) (record { known = refl; small = omega (arith, length-attachments-le directory keeps) })
    (tells_attachments no_segment_said (attachments_of directory) (all_shown directory) refl (says_attachments directory keeps)))

-- The pieces of the attachments of a package: their head, and an attached file (RFC 9559, section 5.1.6).
use Rattle.std.specs.Prelude.{ℕ, ◌+◌, Bool, true, false, List, ◌++◌, length}
use Rattle.ebml_core.specs.Element.{element, uint_element, head_of}
use Rattle.matroska_names.specs.declared.ids.TheConstants.{ATTACHED_FILE, ATTACHMENTS, FILE_DATA, FILE_MEDIA_TYPE, FILE_NAME, FILE_UID}
use Rattle.matroska_names.specs.declared.texts.TheConstants.{OTHER_MEDIA_TYPE, SIDE_MEDIA_TYPE}

-- the media type of an attached file, or of the side data
abbrev pub media_type : Bool → List ℕ
media_type false = OTHER_MEDIA_TYPE.now
media_type true = SIDE_MEDIA_TYPE.now

-- FileName, FileMediaType and FileUID of an attached file (RFC 9559, section 5.1.6.1)
unfoldable pub attached_fields : List ℕ → Bool → ℕ → List ℕ
attached_fields name side uid = element FILE_NAME name ++ element FILE_MEDIA_TYPE (media_type side) ++ uint_element FILE_UID uid

-- an AttachedFile up to the first byte of its content of so many bytes
unfoldable pub attached_head : List ℕ → Bool → ℕ → ℕ → List ℕ
attached_head name side uid len = head_of ATTACHED_FILE (length (attached_fields name side uid) + (length (head_of FILE_DATA len) + len)) ++ (attached_fields name side uid ++ head_of FILE_DATA len)

-- a whole AttachedFile, with its FileData
unfoldable pub attached_file : List ℕ → Bool → ℕ → List ℕ → List ℕ
attached_file name side uid content = element ATTACHED_FILE (attached_fields name side uid ++ element FILE_DATA content)

-- the head of the Attachments (RFC 9559, section 5.1.6) for so many bytes of content
abbrev pub attachments_head : ℕ → List ℕ
attachments_head len = head_of ATTACHMENTS len

-- What every package begins with (RFC 8794 and RFC 9559).
use Rattle.std.specs.Prelude.{List, ℕ, [], ◌∷◌, ◌++◌}
use Rattle.ebml_core.specs.Element.{element, uint_element, uint_bytes}
use Rattle.matroska_names.specs.declared.ids.TheConstants.{DOC_TYPE, DOC_TYPE_READ_VERSION, DOC_TYPE_VERSION, EBML, EBML_MAX_ID_LENGTH, EBML_MAX_SIZE_LENGTH, EBML_READ_VERSION, EBML_VERSION, INFO, MUXING_APP, SEGMENT, TIMESTAMP_SCALE, WRITING_APP}
use Rattle.matroska_names.specs.declared.texts.TheConstants.{APP, MATROSKA}

-- the EBML header (RFC 8794, section 11.2.1, and RFC 9559): EBMLVersion, EBMLReadVersion, EBMLMaxIDLength, EBMLMaxSizeLength,
-- DocType, DocTypeVersion, DocTypeReadVersion
unfoldable pub ebml_content : List ℕ
ebml_content = uint_element EBML_VERSION 1 ++ uint_element EBML_READ_VERSION 1 ++ uint_element EBML_MAX_ID_LENGTH 4 ++ uint_element EBML_MAX_SIZE_LENGTH 8
    ++ element DOC_TYPE MATROSKA.now ++ uint_element DOC_TYPE_VERSION 4 ++ uint_element DOC_TYPE_READ_VERSION 2

-- an Element Data Size of eight bytes that says that the size is unknown (RFC 8794, section 6.2)
abbrev pub unknown_size : List ℕ
unknown_size = 1 ∷ 255 ∷ 255 ∷ 255 ∷ 255 ∷ 255 ∷ 255 ∷ 255 ∷ []

-- the Info element (RFC 9559, section 5.1.2): TimestampScale in nanoseconds, MuxingApp, WritingApp
unfoldable pub info_content : List ℕ
info_content = uint_element TIMESTAMP_SCALE 1000000 ++ element MUXING_APP APP.now ++ element WRITING_APP APP.now

-- what every package begins with: the EBML header, the head of a Segment of unknown size, Info
unfoldable pub header_bytes : List ℕ
header_bytes = element EBML ebml_content ++ (uint_bytes SEGMENT ++ unknown_size) ++ element INFO info_content

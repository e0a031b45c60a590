-- A Matroska file as it is spelled of values, element by element (RFC 8794, section 3), and the outline that these values are.
-- It is an account of the outline beside the walk over bytes, and the one for who knows what was written.
use Rattle.std.specs.Prelude.{◌≡◌, ℕ, ◌-◌, ◌<◌, ◌≤◌, ◌/◌, ◌%◌, ◌^◌, ◌==◌, not, Bool, true, false, List, [], ◌∷◌, ◌++◌, length, Option, Some, None, unwrap_or, Result, Ok, IfSome, ◌⊎◌}
use Rattle.byteorder.specs.Endian.{little_number}
use Rattle.cook_bits.specs.Crc.{crc32_ebml_of}
use Rattle.ebml_core.specs.Element.{IsIdentifier, size_bytes, element}
use Rattle.ebml_core.specs.Reading.{head_at}
use Rattle.ebml_core.specs.declared.parts.Size.{Size}
use Rattle.ebml_core.specs.declared.parts.Size.TheVariants.{Known, Unknown}
use Rattle.ebml_core.specs.declared.parts.Head.{Head}
use Rattle.shelf_reader.specs.Seen.{is_same_text}
use Rattle.matroska_names.specs.declared.ids.TheConstants.{EBML as ebml_header, DOC_TYPE as doc_type, SEGMENT as segment, CLUSTER as cluster, TRACKS as tracks, ATTACHMENTS as attachments, ATTACHED_FILE as attached_file, FILE_NAME as file_name, FILE_MEDIA_TYPE as file_media_type, FILE_DATA as file_data, TRACK_ENTRY as track_entry, TRACK_NUMBER as track_number, CODEC_ID as codec_id, CODEC_PRIVATE as codec_private, CONTENT_ENCODINGS as content_encodings, VIDEO as video, PIXEL_WIDTH as pixel_width, PIXEL_HEIGHT as pixel_height, SIMPLE_BLOCK as simple_block, BLOCK_GROUP as block_group, CRC_32 as crc_32}
use Rattle.matroska_names.specs.declared.texts.TheConstants.{MATROSKA, FFV1_CODEC, FLAC_CODEC}
use Rattle.matroska_read.specs.Numbers.{number_of}
use Rattle.matroska_read.specs.Outline.{is_understood, bounds_of, no_doc_type, side_media_type, outline_of}
use Rattle.matroska_read.specs.Places.{Block, Attached, Outline}
use Rattle.matroska_read.specs.Tracks.{first_number, first_video, no_video, width_of, height_of, has_number}
use Rattle.matroska_read.specs.declared.parts.HeaderSeen.{HeaderSeen}
use Rattle.matroska_read.specs.declared.parts.VideoSeen.{VideoSeen}
use Rattle.matroska_read.specs.declared.tracks.Codec.{Codec}
use Rattle.matroska_read.specs.declared.tracks.Codec.TheVariants.{Ffv1, Flac}
use Rattle.matroska_read.specs.declared.tracks.Track.{Track}

-- ---- elements one behind another

-- an identifier and a content that can be spelled (RFC 8794, sections 5 and 6)
pub record CanSpell (id : ℕ) (content : List ℕ) : Type 0 where
  pub known : IsIdentifier id
  pub small : length content < 2 ^ 56 - 1

-- Bytes that are elements one behind another. Each element, by its identifier and its content, leads from what was said before it
-- to what is said with it.
pub data Says {Said : Type 0} (tells : Said → ℕ → List ℕ → Said → Type 0) : Said → List ℕ → Said → Type 0 where
  says_nothing : (said : Said) → Says tells said [] said
  says_element : (said next : Said) (id : ℕ) (content : List ℕ) → CanSpell id content → tells said id content next → Says tells said (element id content) next
  says_both : (said next last : Said) (first second : List ℕ) → Says tells said first next → Says tells next second last → Says tells said (first ++ second) last

-- the first of repeated contents counts
abbrev pub first_content : Option (List ℕ) → List ℕ → Option (List ℕ)
first_content None content = Some content
first_content (Some first) content = Some first

-- ---- the EBML header

-- A DocType is Matroska's, and a number is one that is understood. Anything else is passed over.
pub data TellsHeader : HeaderSeen → ℕ → List ℕ → HeaderSeen → Type 0 where
  tells_doc_type : (said : HeaderSeen) (content : List ℕ) → is_same_text content MATROSKA.now ≡ true → TellsHeader said doc_type content (record { doc_type = true })
  tells_number : (said : HeaderSeen) (id : ℕ) (content : List ℕ) → id == doc_type ≡ false → IfSome (bounds_of id) (λ bounds. is_understood bounds content ≡ true) → TellsHeader said id content said

-- ---- Tracks

-- the sizes of pictures, of at most eight bytes each
pub data TellsVideo : VideoSeen → ℕ → List ℕ → VideoSeen → Type 0 where
  tells_width : (said : VideoSeen) (content : List ℕ) → length content ≤ 8 → TellsVideo said pixel_width content (record { width = first_number said.width (number_of 0 content); height = said.height })
  tells_height : (said : VideoSeen) (content : List ℕ) → length content ≤ 8 → TellsVideo said pixel_height content (record { width = said.width; height = first_number said.height (number_of 0 content) })
  tells_no_size : (said : VideoSeen) (id : ℕ) (content : List ℕ) → id == pixel_width ≡ false → id == pixel_height ≡ false → TellsVideo said id content said

-- what is said of a track
pub record EntrySaid : Type 0 where
  pub number : Option ℕ
  pub codec : Option (List ℕ)
  pub private : Option (List ℕ)
  pub video : Option VideoSeen
  pub encoded : Bool

abbrev pub no_entry_said : EntrySaid
no_entry_said = record { number = None; codec = None; private = None; video = None; encoded = false }

-- the identifier is none of those that are read of a TrackEntry
pub record IsNoField (id : ℕ) : Type 0 where
  pub number : id == track_number ≡ false
  pub codec : id == codec_id ≡ false
  pub private : id == codec_private ≡ false
  pub encodings : id == content_encodings ≡ false
  pub video : id == video ≡ false

pub data TellsEntry : EntrySaid → ℕ → List ℕ → EntrySaid → Type 0 where
  tells_track_number : (said : EntrySaid) (content : List ℕ) → length content ≤ 8 → TellsEntry said track_number content (record said { number = first_number said.number (number_of 0 content) })
  tells_codec : (said : EntrySaid) (content : List ℕ) → TellsEntry said codec_id content (record said { codec = first_content said.codec content })
  tells_private : (said : EntrySaid) (content : List ℕ) → TellsEntry said codec_private content (record said { private = first_content said.private content })
  tells_encodings : (said : EntrySaid) (content : List ℕ) → TellsEntry said content_encodings content (record said { encoded = true })
  tells_video : (said : EntrySaid) (content : List ℕ) (sizes : VideoSeen) → Says TellsVideo no_video content sizes → TellsEntry said video content (record said { video = first_video said.video sizes })
  tells_no_field : (said : EntrySaid) (id : ℕ) (content : List ℕ) → IsNoField id → TellsEntry said id content said

-- what a CodecID says
abbrev pub codec_text : Codec → List ℕ
codec_text Ffv1 = FFV1_CODEC.now
codec_text Flac = FLAC_CODEC.now

-- what is said makes a track
pub record MakesTrack (said : EntrySaid) (track : Track) : Type 0 where
  pub number : said.number ≡ Some track.number
  pub positive : track.number == 0 ≡ false
  pub codec : said.codec ≡ Some (codec_text track.codec)
  pub private : unwrap_or said.private [] ≡ track.private
  pub width : width_of said.video ≡ track.width
  pub height : height_of said.video ≡ track.height
  pub plain : said.encoded ≡ false

-- a track has a number that no earlier one has
pub data TellsTracks : List Track → ℕ → List ℕ → List Track → Type 0 where
  tells_track : (listed : List Track) (content : List ℕ) (said : EntrySaid) (track : Track) → Says TellsEntry no_entry_said content said → MakesTrack said track → has_number track.number listed ≡ false → TellsTracks listed track_entry content (listed ++ track ∷ [])
  tells_no_track : (listed : List Track) (id : ℕ) (content : List ℕ) → id == track_entry ≡ false → TellsTracks listed id content listed

-- ---- a Cluster

-- the track and the body of a block
pub record Bare : Type 0 where
  pub track : ℕ
  pub body : List ℕ

-- the identifier is none of those that are read of a Cluster
pub record IsNoBlock (id : ℕ) : Type 0 where
  pub block : id == simple_block ≡ false
  pub group : id == block_group ≡ false
  pub checksum : id == crc_32 ≡ false

-- One SimpleBlock, of a track that is listed: the track's number, spelled as a size is, a time of two bytes, flags without lacing,
-- and the body (RFC 9559, section 10.2).
pub data TellsCluster (listed : List Track) : Option Bare → ℕ → List ℕ → Option Bare → Type 0 where
  tells_block : (track : ℕ) (time : List ℕ) (flags : ℕ) (body : List ℕ) → track < 2 ^ 56 - 1 → has_number track listed ≡ true → length time ≡ 2 → flags / 2 % 4 ≡ 0
      → TellsCluster listed None simple_block (size_bytes track ++ (time ++ flags ∷ body)) (Some (record { track = track; body = body }))
  tells_no_block : (said : Option Bare) (id : ℕ) (content : List ℕ) → IsNoBlock id → TellsCluster listed said id content said

-- The block that a Cluster's content says. Where it begins with a checksum, the block is damaged if that doesn't agree with the
-- bytes behind it (RFC 8794, section 11.3.1).
pub data SaysBlock (listed : List Track) : List ℕ → Block → Type 0 where
  says_checked : (checksum rest : List ℕ) (bare : Bare) → length checksum ≡ 4 → Says (TellsCluster listed) None rest (Some bare)
      → SaysBlock listed (element crc_32 checksum ++ rest) (record { track = bare.track; damaged = not (crc32_ebml_of rest == little_number 4 checksum); body = bare.body })
  says_unchecked : (content : List ℕ) (bare : Bare) → Says (TellsCluster listed) None content (Some bare) → SaysBlock listed content (record { track = bare.track; damaged = false; body = bare.body })

-- ---- Attachments

-- what is said of an attached file
pub record FileSaid : Type 0 where
  pub name : Option (List ℕ)
  pub media_type : Option (List ℕ)
  pub content : Option (List ℕ)

abbrev pub no_file_said : FileSaid
no_file_said = record { name = None; media_type = None; content = None }

-- the identifier is none of those that are read of an AttachedFile
pub record IsNoPart (id : ℕ) : Type 0 where
  pub name : id == file_name ≡ false
  pub media_type : id == file_media_type ≡ false
  pub content : id == file_data ≡ false

pub data TellsFile : FileSaid → ℕ → List ℕ → FileSaid → Type 0 where
  tells_name : (said : FileSaid) (content : List ℕ) → TellsFile said file_name content (record said { name = first_content said.name content })
  tells_media_type : (said : FileSaid) (content : List ℕ) → TellsFile said file_media_type content (record said { media_type = first_content said.media_type content })
  tells_content : (said : FileSaid) (content : List ℕ) → TellsFile said file_data content (record said { content = first_content said.content content })
  tells_no_part : (said : FileSaid) (id : ℕ) (content : List ℕ) → IsNoPart id → TellsFile said id content said

-- a file has a name, a content, and a media type that tells whether it is side data
pub data TellsAttachments : List Attached → ℕ → List ℕ → List Attached → Type 0 where
  tells_file : (listed : List Attached) (bytes name media_type content : List ℕ) → Says TellsFile no_file_said bytes (record { name = Some name; media_type = Some media_type; content = Some content })
      → TellsAttachments listed attached_file bytes (listed ++ record { name = name; side = is_same_text media_type side_media_type; content = content } ∷ [])
  tells_no_file : (listed : List Attached) (id : ℕ) (content : List ℕ) → id == attached_file ≡ false → TellsAttachments listed id content listed

-- ---- the Segment

-- what is said of a Segment
pub record SegmentSaid : Type 0 where
  pub listed : Bool
  pub tracks : List Track
  pub blocks : List Block
  pub files : Option (List Attached)

abbrev pub no_segment_said : SegmentSaid
no_segment_said = record { listed = false; tracks = []; blocks = []; files = None }

-- the identifier is none of those that are read of a Segment
pub record IsNoList (id : ℕ) : Type 0 where
  pub tracks : id == tracks ≡ false
  pub cluster : id == cluster ≡ false
  pub attachments : id == attachments ≡ false

-- Tracks and Attachments at most once, and Clusters of tracks that were listed before
pub data TellsSegment : SegmentSaid → ℕ → List ℕ → SegmentSaid → Type 0 where
  tells_tracks : (said : SegmentSaid) (content : List ℕ) (listed : List Track) → said.listed ≡ false → Says TellsTracks [] content listed → TellsSegment said tracks content (record said { listed = true; tracks = listed })
  tells_cluster : (said : SegmentSaid) (content : List ℕ) (block : Block) → SaysBlock said.tracks content block → TellsSegment said cluster content (record said { blocks = said.blocks ++ block ∷ [] })
  tells_attachments : (said : SegmentSaid) (content : List ℕ) (files : List Attached) → said.files ≡ None → Says TellsAttachments [] content files → TellsSegment said attachments content (record said { files = Some files })
  tells_nothing : (said : SegmentSaid) (id : ℕ) (content : List ℕ) → IsNoList id → TellsSegment said id content said

-- ---- the file

-- the outline that is said
abbrev pub outline_said : SegmentSaid → Outline
outline_said said = record { tracks = said.tracks; blocks = said.blocks; files = unwrap_or said.files [] }

-- the head of a Segment, whose size is unknown or that of what follows (RFC 9559, section 5.1)
pub record IsSegmentHead (head : List ℕ) (len : ℕ) : Type 0 where
  pub size : Size
  pub reads : head_at head ≡ Some (record { id = segment; size = size; len = length head })
  pub ends : (size ≡ Unknown) ⊎ (size ≡ Known len)

-- an EBML header of Matroska's DocType, and a Segment of all that follows
pub data SpellsFile : List ℕ → Outline → Type 0 where
  spells_file : (header head content : List ℕ) (said : SegmentSaid) → CanSpell ebml_header header → Says TellsHeader no_doc_type header (record { doc_type = true }) → IsSegmentHead head (length content)
      → Says TellsSegment no_segment_said content said → SpellsFile (element ebml_header header ++ (head ++ content)) (outline_said said)

-- the outline of what is spelled of values is these values
abbrev pub SpelledIsOutline : Type 0
SpelledIsOutline = (bytes : List ℕ) (outline : Outline) → SpellsFile bytes outline → outline_of bytes ≡ Ok outline

-- The outline of any list of bytes, read as a Matroska file (RFC 8794 and RFC 9559): its tracks, its blocks
-- and the files that are attached, or the first fault. A parent's children are walked in
-- order of place, and what a parent holds or lacks is tested after its children. An identifier has its meaning in its own parent alone; elsewhere, and where it isn't named
-- here, its element is passed over by its size.
use Rattle.std.specs.Prelude.{ℕ, ◌-◌, nat_le, ◌==◌, ◌&&◌, Bool, true, false, if◌then◌else◌, List, [], ◌∷◌, ◌++◌, length, Option, Some, None, unwrap_or}
use Rattle.shelf_reader.specs.Readings.{gives, fails, looks, answers, thence}
use Rattle.shelf_reader.specs.Seen.{between, is_text_between}
use Rattle.matroska_names.specs.declared.ids.TheConstants.{EBML as ebml_header, EBML_READ_VERSION as ebml_read_version, EBML_MAX_ID_LENGTH as ebml_max_id_length, EBML_MAX_SIZE_LENGTH as ebml_max_size_length, DOC_TYPE as doc_type, DOC_TYPE_READ_VERSION as doc_type_read_version, CLUSTER as cluster, TRACKS as tracks, ATTACHMENTS as attachments, ATTACHED_FILE as attached_file, FILE_NAME as file_name, FILE_MEDIA_TYPE as file_media_type, FILE_DATA as file_data}
use Rattle.matroska_names.specs.declared.texts.TheConstants.{MATROSKA, SIDE_MEDIA_TYPE}
use Rattle.matroska_read.specs.Places.{Places, Outline, outline_at}
use Rattle.matroska_read.specs.Clusters.{cluster_read}
use Rattle.matroska_read.specs.Numbers.{number_of}
use Rattle.matroska_read.specs.Tracks.{visit_tracks}
use Rattle.matroska_read.specs.Walk.{Read, Visits, content_of, first_of, element_in, segment_in, walked_children}
use Rattle.matroska_read.specs.declared.error.OutlineFault.{OutlineFault}
use Rattle.matroska_read.specs.declared.error.OutlineFault.TheVariants.{Shape}
use Rattle.matroska_read.specs.declared.parts.Element.{Element}
use Rattle.matroska_read.specs.declared.parts.Bounds.{Bounds}
use Rattle.matroska_read.specs.declared.parts.Span.{Span}
use Rattle.matroska_read.specs.declared.parts.Fields.{Fields}
use Rattle.matroska_read.specs.declared.parts.HeaderSeen.{HeaderSeen}
use Rattle.matroska_read.specs.declared.parts.SegmentSeen.{SegmentSeen}
use Rattle.matroska_read.specs.declared.files.FileAt.{FileAt}
use Rattle.matroska_read.specs.declared.tracks.BlockAt.{BlockAt}
use Rattle.matroska_read.specs.declared.tracks.Track.{Track}

-- ---- the EBML header

-- a number of at most eight bytes, from the least to the largest that this reader understands
unfoldable pub is_understood : Bounds → List ℕ → Bool
is_understood bounds content =
    nat_le (length content) 8 && (nat_le bounds.least (number_of bounds.when_empty content) && nat_le (number_of bounds.when_empty content) bounds.most)

abbrev pub bounds : ℕ → ℕ → ℕ → Bounds
bounds when_empty least most = record { when_empty = when_empty; least = least; most = most }

-- the numbers of the header that a reader must understand (RFC 8794, section 11.2; RFC 9559), by identifier:
-- EBMLReadVersion is 1, EBMLMaxIDLength at most 4, EBMLMaxSizeLength at most 8, DocTypeReadVersion at most 4
unfoldable pub bounds_of : ℕ → Option Bounds
bounds_of id =
    if id == ebml_read_version then Some (bounds 1 1 1)
    else (if id == ebml_max_id_length then Some (bounds 4 0 4)
    else (if id == ebml_max_size_length then Some (bounds 8 0 8)
    else (if id == doc_type_read_version then Some (bounds 1 0 4)
    else None)))

unfoldable pub is_number_understood : Bounds → Element → List ℕ → Bool
is_number_understood bounds child bytes = is_understood bounds (content_of child bytes)

unfoldable pub number_visited : Option Bounds → Visits HeaderSeen
number_visited None seen child = gives seen
number_visited (Some bounds) seen child = looks (is_number_understood bounds child) (λ understood. if understood then gives seen else fails (Shape child.place))

-- a child of the header, and whether a DocType was seen
unfoldable pub visit_header : Visits HeaderSeen
visit_header seen child =
    if child.id == doc_type then looks (is_text_between MATROSKA.now child.start child.end) (λ same. if same then gives (record { doc_type = true }) else fails (Shape child.place))
    else number_visited (bounds_of child.id) seen child

-- no DocType was seen
abbrev pub no_doc_type : HeaderSeen
no_doc_type = record { doc_type = false }

-- the place behind a header: it has a DocType
unfoldable pub header_read : Element → Read ℕ
header_read header = thence (walked_children visit_header header no_doc_type) (λ seen. if seen.doc_type then gives header.end else fails (Shape header.place))

-- a file of so many bytes begins with an EBML header
unfoldable pub header_of : ℕ → Read ℕ
header_of len = thence (element_in len 0) (λ first. if first.id == ebml_header then header_read first else fails (Shape 0))

-- ---- the attached files

abbrev pub side_media_type : List ℕ
side_media_type = SIDE_MEDIA_TYPE.now

-- nothing of an AttachedFile was seen
abbrev pub no_fields : Fields
no_fields = record { name = None; media_type = None; content = None }

-- what was seen of an AttachedFile with one more of its children (RFC 9559, section 5.1.6.1)
unfoldable pub with_field : Fields → Element → Fields
with_field fields child =
    if child.id == file_name then record { name = first_of fields.name child; media_type = fields.media_type; content = fields.content }
    else (if child.id == file_media_type then record { name = fields.name; media_type = first_of fields.media_type child; content = fields.content }
    else (if child.id == file_data then record { name = fields.name; media_type = fields.media_type; content = first_of fields.content child }
    else fields))

unfoldable pub visit_field : Visits Fields
visit_field fields child = gives (with_field fields child)

-- the file of a name, a media type and a content
unfoldable pub file_at : Span → Span → Span → Read FileAt
file_at name media content =
    looks (between name.start name.end) (λ named. looks (is_text_between side_media_type media.start media.end) (λ side. gives (record { name = named; side = side; at = content.start; len = content.end - content.start })))

-- an AttachedFile at a place has a name, a media type and a content
unfoldable pub file_of : ℕ → Option Span → Option Span → Option Span → Read FileAt
file_of place (Some name) (Some media) (Some content) = file_at name media content
file_of place name media content = fails (Shape place)

unfoldable pub file_read : Element → Read FileAt
file_read element = thence (walked_children visit_field element no_fields) (λ fields. file_of element.place fields.name fields.media_type fields.content)

-- a child of Attachments (section 5.1.6), and the files so far
unfoldable pub visit_attachments : Visits (List FileAt)
visit_attachments files child = if child.id == attached_file then thence (file_read child) (λ file. gives (files ++ file ∷ [])) else gives files

-- ---- the Segment

-- nothing of a Segment was seen
abbrev pub nothing_seen : SegmentSeen
nothing_seen = record { listed = false; tracks = []; blocks = []; files = None }

abbrev pub with_tracks : SegmentSeen → List Track → SegmentSeen
with_tracks seen tracks = record { listed = true; tracks = tracks; blocks = seen.blocks; files = seen.files }

abbrev pub with_cluster : SegmentSeen → List Track × BlockAt → SegmentSeen
with_cluster seen read = record { listed = seen.listed; tracks = read.0; blocks = seen.blocks ++ read.1 ∷ []; files = seen.files }

abbrev pub with_files : SegmentSeen → List FileAt → SegmentSeen
with_files seen files = record { listed = seen.listed; tracks = seen.tracks; blocks = seen.blocks; files = Some files }

unfoldable pub attachments_visited : SegmentSeen → Option (List FileAt) → Element → Read SegmentSeen
attachments_visited seen (Some files) child = fails (Shape child.place)
attachments_visited seen None child = thence (walked_children visit_attachments child []) (λ files. gives (with_files seen files))

-- A child of the Segment (section 5.1), and what was seen before it: it has Tracks and Attachments at most once, and a
-- Cluster's block is of a track that was listed before.
unfoldable pub visit_segment : Visits SegmentSeen
visit_segment seen child =
    if child.id == tracks then
    (if seen.listed then fails (Shape child.place) else thence (walked_children visit_tracks child []) (λ listed. gives (with_tracks seen listed)))
    else (if child.id == cluster then thence (cluster_read seen.tracks child) (λ read. gives (with_cluster seen read))
    else (if child.id == attachments then attachments_visited seen seen.files child
    else gives seen))

-- what is known when all was seen
abbrev pub places_seen : SegmentSeen → Places
places_seen seen = record { tracks = seen.tracks; blocks = seen.blocks; files = unwrap_or seen.files [] }

-- what a Segment of a file of so many bytes holds, behind which nothing follows
unfoldable pub segment_read : ℕ → Element → Read Places
segment_read len element =
    thence (walked_children visit_segment element nothing_seen) (λ seen. if element.end == len then gives (places_seen seen) else fails (Shape element.end))

-- An EBML header and then a Segment (RFC 9559), in a file of so many bytes.
unfoldable pub places_in : ℕ → Read Places
places_in len = thence (header_of len) (λ place. thence (segment_in len place) (segment_read len))

-- The outline by places: tracks, blocks and attached files, each in order of place, or the first fault.
unfoldable pub places_of : Read Places
places_of = looks length places_in

-- The outline by values: what stands at the places.
unfoldable pub outline_of : Read Outline
outline_of = thence places_of (λ places. answers (outline_at places))

-- The tracks of a Matroska file (RFC 9559, section 5.1.4), read in order of place. What a TrackEntry lacks, and which codec
-- it has, is tested after its children; of repeated children the first counts.
use Rattle.std.specs.Prelude.{ℕ, ◌==◌, ◌||◌, Bool, true, false, if◌then◌else◌, List, [], ◌∷◌, ◌++◌, codes, unwrap_or, Option, Some, None}
use Rattle.std.specs.List.{list_any}
use Rattle.shelf_reader.specs.Readings.{gives, fails, looks, answers, thence}
use Rattle.shelf_reader.specs.Seen.{between, is_text_between}
use Rattle.matroska_names.specs.declared.ids.TheConstants.{TRACK_ENTRY as track_entry, TRACK_NUMBER as track_number, CODEC_ID as codec_id, CODEC_PRIVATE as codec_private, CONTENT_ENCODINGS as content_encodings, VIDEO as video, PIXEL_WIDTH as pixel_width, PIXEL_HEIGHT as pixel_height}
use Rattle.matroska_names.specs.declared.texts.TheConstants.{FFV1_CODEC, FLAC_CODEC}
use Rattle.matroska_read.specs.Numbers.{number_read}
use Rattle.matroska_read.specs.Walk.{Read, Visits, walked_children, first_of}
use Rattle.matroska_read.specs.declared.error.OutlineFault.TheVariants.{Shape, Encoded, TrackUnknown}
use Rattle.matroska_read.specs.declared.parts.Element.{Element}
use Rattle.matroska_read.specs.declared.parts.Span.{Span}
use Rattle.matroska_read.specs.declared.parts.VideoSeen.{VideoSeen}
use Rattle.matroska_read.specs.declared.parts.EntrySeen.{EntrySeen}
use Rattle.matroska_read.specs.declared.tracks.Codec.{Codec}
use Rattle.matroska_read.specs.declared.tracks.Codec.TheVariants.{Ffv1, Flac}
use Rattle.matroska_read.specs.declared.tracks.Track.{Track}

-- the first of repeated numbers counts
abbrev pub first_number : Option ℕ → ℕ → Option ℕ
first_number None number = Some number
first_number (Some first) number = Some first

-- ---- the sizes of pictures

abbrev pub no_video : VideoSeen
no_video = record { width = None; height = None }

unfoldable pub visit_video : Visits VideoSeen
visit_video seen child =
    if child.id == pixel_width then thence (number_read child) (λ width. gives (record { width = first_number seen.width width; height = seen.height }))
    else (if child.id == pixel_height then thence (number_read child) (λ height. gives (record { width = seen.width; height = first_number seen.height height }))
    else gives seen)

-- the first of repeated Videos counts
abbrev pub first_video : Option VideoSeen → VideoSeen → Option VideoSeen
first_video None video = Some video
first_video (Some first) video = Some first

-- ---- a TrackEntry

abbrev pub no_entry : EntrySeen
no_entry = record { number = None; codec = None; private = None; video = None; encoded = false }

unfoldable pub visit_entry : Visits EntrySeen
visit_entry seen child =
    if child.id == track_number then
    thence (number_read child) (λ number. gives (record { number = first_number seen.number number; codec = seen.codec; private = seen.private; video = seen.video; encoded = seen.encoded }))
    else (if child.id == codec_id then gives (record { number = seen.number; codec = first_of seen.codec child; private = seen.private; video = seen.video; encoded = seen.encoded })
    else (if child.id == codec_private then gives (record { number = seen.number; codec = seen.codec; private = first_of seen.private child; video = seen.video; encoded = seen.encoded })
    else (if child.id == content_encodings then gives (record { number = seen.number; codec = seen.codec; private = seen.private; video = seen.video; encoded = true })
    else (if child.id == video then
    thence (walked_children visit_video child no_video) (λ sizes. gives (record { number = seen.number; codec = seen.codec; private = seen.private; video = first_video seen.video sizes; encoded = seen.encoded }))
    else gives seen))))

-- ---- a track

unfoldable pub has_number : ℕ → List Track → Bool
has_number number tracks = list_any (λ track. track.number == number) tracks

-- the codec of a track, by its CodecID
unfoldable pub codec_read : ℕ → Span → Read Codec
codec_read number id =
    looks (is_text_between (FFV1_CODEC.now) id.start id.end) (λ film. if film then gives Ffv1
    else looks (is_text_between (FLAC_CODEC.now) id.start id.end) (λ sound. if sound then gives Flac else fails (TrackUnknown number)))

-- the bytes of a CodecPrivate; one that isn't there counts as empty
unfoldable pub private_read : Option Span → Read (List ℕ)
private_read None = gives []
private_read (Some span) = answers (between span.start span.end)

-- a size that isn't there counts as 0
abbrev pub width_of : Option VideoSeen → ℕ
width_of None = 0
width_of (Some video) = unwrap_or video.width 0

abbrev pub height_of : Option VideoSeen → ℕ
height_of None = 0
height_of (Some video) = unwrap_or video.height 0

unfoldable pub track_read : EntrySeen → ℕ → Span → Read Track
track_read seen number id =
    if seen.encoded then fails (Encoded number)
    else thence (codec_read number id) (λ codec. thence (private_read seen.private) (λ private.
    gives (record { number = number; codec = codec; private = private; width = width_of seen.video; height = height_of seen.video })))

-- A TrackEntry at a place, of which these children were seen, behind these tracks. It has a CodecID, and a number that is
-- not 0 and no earlier track's.
unfoldable pub track_of : List Track → ℕ → EntrySeen → Option ℕ → Option Span → Read Track
track_of tracks place seen (Some number) (Some id) = if number == 0 || has_number number tracks then fails (Shape place) else track_read seen number id
track_of tracks place seen number id = fails (Shape place)

unfoldable pub entry_read : List Track → Element → Read Track
entry_read tracks element = thence (walked_children visit_entry element no_entry) (λ seen. track_of tracks element.place seen seen.number seen.codec)

-- a child of Tracks, and the tracks so far
unfoldable pub visit_tracks : Visits (List Track)
visit_tracks tracks child = if child.id == track_entry then thence (entry_read tracks child) (λ track. gives (tracks ++ track ∷ [])) else gives tracks

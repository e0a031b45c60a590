-- Laws of where the files of an outline end.
use Rattle.std.proofs.Common.{◌≡◌, ℕ, ◌-◌, Bool, List, [], ◌∷◌, ◌++◌, All, Option, Some, None, unwrap_or, IfSome, Result, Ok, Err, subst}
use Rattle.std.proofs.lemmas.List.Elements.{All-nil, All-push}
use Rattle.shelf_reader.specs.declared.error.ReadError.{ReadError}
use Rattle.shelf_reader.specs.Readings.{gives, answers, Answers}
use Rattle.shelf_reader.specs.Seen.{Seen, between, is_text_between}
use Rattle.shelf_reader.specs.ReadingLaws.{gives-is, looks-on, looks-stops}
use Rattle.matroska_read.specs.declared.error.OutlineFault.{OutlineFault}
use Rattle.matroska_read.specs.declared.files.FileAt.{FileAt}
use Rattle.matroska_read.specs.declared.parts.Span.{Span}
use Rattle.matroska_read.specs.declared.parts.SegmentSeen.{SegmentSeen}
use Rattle.matroska_read.specs.declared.tracks.BlockAt.{BlockAt}
use Rattle.matroska_read.specs.declared.tracks.Track.{Track}
use Rattle.matroska_read.specs.Clusters.{no_cluster}
use Rattle.matroska_read.specs.Tracks.{no_entry}
use Rattle.matroska_read.specs.Inside.{BlockEndsBy, BlocksEndBy, EndsBy, AllEndBy, AreSpans, ClusterKeeps, EntryKeeps, KeepsWithin, SegmentEndsBy}
use Rattle.matroska_read.specs.Outline.{side_media_type, no_fields, file_at, places_seen}

pub AllEndBy-none : (end : ℕ) → AllEndBy end []
unfolding AllEndBy
AllEndBy-none end = All-nil (EndsBy end)

pub AllEndBy-one_more : (end : ℕ) (files : List FileAt) (file : FileAt) → AllEndBy end files → EndsBy end file → AllEndBy end (files ++ file ∷ [])
unfolding AllEndBy
AllEndBy-one_more end files file all one = All-push (EndsBy end) files file all one

all-end : (end : ℕ) (o : Option (List FileAt)) → IfSome o (AllEndBy end) → All (EndsBy end) (unwrap_or o [])
unfolding AllEndBy
all-end end None ends = All-nil (EndsBy end)
all-end end (Some files) ends = ends

blocks-end : (end : ℕ) (blocks : List BlockAt) → BlocksEndBy end blocks → All (BlockEndsBy end) blocks
unfolding BlocksEndBy
blocks-end end blocks ends = ends

-- an outline keeps within, where the blocks and the files do that were seen
pub KeepsWithin-seen : (end : ℕ) (seen : SegmentSeen) → SegmentEndsBy end seen → KeepsWithin end (places_seen seen)
KeepsWithin-seen end seen ends = record { blocks = blocks-end end seen.blocks ends.blocks; files = all-end end seen.files ends.files }

pub BlocksEndBy-none : (end : ℕ) → BlocksEndBy end []
unfolding BlocksEndBy
BlocksEndBy-none end = All-nil (BlockEndsBy end)

pub BlocksEndBy-one_more : (end : ℕ) (blocks : List BlockAt) (block : BlockAt) → BlocksEndBy end blocks → BlockEndsBy end block → BlocksEndBy end (blocks ++ block ∷ [])
unfolding BlocksEndBy
BlocksEndBy-one_more end blocks block all one = All-push (BlockEndsBy end) blocks block all one

-- nothing that was seen of a Cluster keeps inside
pub ClusterKeeps-none : (end : ℕ) (tracks : List Track) → ClusterKeeps end (no_cluster tracks)
ClusterKeeps-none end tracks = record { checksum = tt; block = tt }

-- nothing that was seen of a TrackEntry keeps inside
pub EntryKeeps-none : (end : ℕ) → EntryKeeps end no_entry
EntryKeeps-none end = record { codec = tt; private = tt }

-- nothing that was seen of an AttachedFile keeps inside
pub AreSpans-none : (end : ℕ) → AreSpans end no_fields
AreSpans-none end = record { name = tt; media_type = tt; content = tt }

-- ---- the file of a name, a media type and a content; the reader moves between the two

abbrev made : List ℕ → Span → Bool → FileAt
made named content side = record { name = named; side = side; at = content.start; len = content.end - content.start }

-- the text that is compared is the media type of the side data
same_text : (known : Seen) (media : Span) (text : List ℕ) (answer : Result Bool (ReadError OutlineFault)) → text ≡ side_media_type → Answers {F = OutlineFault} known (answers (is_text_between text media.start media.end)) answer
    → Answers {F = OutlineFault} known (answers (is_text_between side_media_type media.start media.end)) answer
same_text known media text answer is compared = subst (λ (t : List ℕ). Answers {F = OutlineFault} known (answers (is_text_between t media.start media.end)) answer) is compared

pub file_at-known : (known between_known : Seen) (name media content : Span) (named text : List ℕ) (side : Bool) → text ≡ side_media_type → between_known ≡ known → Answers {F = OutlineFault} known (answers (between name.start name.end)) (Ok named)
    → Answers {F = OutlineFault} between_known (answers (is_text_between text media.start media.end)) (Ok side)
    → Answers known (file_at name media content) (Ok (record { name = named; side = side; at = content.start; len = content.end - content.start }))
unfolding file_at
file_at-known known between_known name media content named text side is same first second =
    looks-on {F = OutlineFault} known (between name.start name.end) _ named (Ok (made named content side)) first
    (looks-on {F = OutlineFault} known (is_text_between side_media_type media.start media.end) (λ (s : Bool). gives (made named content s)) side (Ok (made named content side))
    (subst (λ (k : Seen). Answers {F = OutlineFault} k (answers (is_text_between side_media_type media.start media.end)) (Ok side)) same (same_text between_known media text (Ok side) is second)) (gives-is OutlineFault known (made named content side)))

pub file_at-stops : (known between_known : Seen) (name media content : Span) (named text : List ℕ) (error : ReadError OutlineFault) → text ≡ side_media_type → between_known ≡ known → Answers {F = OutlineFault} known (answers (between name.start name.end)) (Ok named)
    → Answers between_known (answers (is_text_between text media.start media.end)) (Err error) → Answers known (file_at name media content) (Err error)
unfolding file_at
file_at-stops known between_known name media content named text error is same first second =
    looks-on known (between name.start name.end) _ named (Err error) first
    (looks-stops known (is_text_between side_media_type media.start media.end) _ error (subst (λ (k : Seen). Answers k (answers (is_text_between side_media_type media.start media.end)) (Err error)) same (same_text between_known media text (Err error) is second)))

pub ruleset ends_laws = (AllEndBy-none, AllEndBy-one_more, BlocksEndBy-none, BlocksEndBy-one_more, KeepsWithin-seen)

pub ruleset cluster_laws = (ClusterKeeps-none)

pub ruleset field_laws = (AreSpans-none, EntryKeeps-none)

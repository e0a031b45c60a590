-- Places that keep inside a parent and inside the file, whatever a shelf tells.
use Rattle.std.specs.Prelude.{◌≡◌, ℕ, ◌+◌, ◌<◌, ◌≤◌, List, All, IfSome}
use Rattle.matroska_read.specs.declared.parts.Element.{Element}
use Rattle.matroska_read.specs.declared.parts.Span.{Span}
use Rattle.matroska_read.specs.declared.parts.Fields.{Fields}
use Rattle.matroska_read.specs.declared.parts.EntrySeen.{EntrySeen}
use Rattle.matroska_read.specs.declared.parts.ClusterSeen.{ClusterSeen}
use Rattle.matroska_read.specs.declared.parts.SegmentSeen.{SegmentSeen}
use Rattle.matroska_read.specs.declared.files.FileAt.{FileAt}
use Rattle.matroska_read.specs.declared.tracks.BlockAt.{BlockAt}
use Rattle.matroska_read.specs.Places.{Places}

-- an element has a head, and ends where its parent does or before
pub record IsInside (place end : ℕ) (element : Element) : Type 0 where
  pub at : element.place ≡ place
  pub head : place < element.start
  pub content : element.start ≤ element.end
  pub within : element.end ≤ end

abbrev pub IsSpan : ℕ → Span → Type 0
IsSpan end span = (span.start ≤ span.end) × (span.end ≤ end)

pub record AreSpans (end : ℕ) (fields : Fields) : Type 0 where
  pub name : IfSome fields.name (IsSpan end)
  pub media_type : IfSome fields.media_type (IsSpan end)
  pub content : IfSome fields.content (IsSpan end)

-- the body of a block ends at a place or before
abbrev pub BlockEndsBy : ℕ → BlockAt → Type 0
BlockEndsBy end block = block.at + block.len ≤ end

-- the content of a file ends at a place or before
abbrev pub EndsBy : ℕ → FileAt → Type 0
EndsBy end file = file.at + file.len ≤ end

-- each block and each file of an outline does
pub record KeepsWithin (end : ℕ) (places : Places) : Type 0 where
  pub blocks : All (BlockEndsBy end) places.blocks
  pub files : All (EndsBy end) places.files

-- each of the files does
unfoldable pub AllEndBy : ℕ → List FileAt → Type 0
AllEndBy end files = All (EndsBy end) files

-- an element keeps inside a parent that ends at a place, whose own place is not asked
pub record KeepsInside (end : ℕ) (element : Element) : Type 0 where
  pub content : element.start ≤ element.end
  pub within : element.end ≤ end

-- each of the blocks does
unfoldable pub BlocksEndBy : ℕ → List BlockAt → Type 0
BlocksEndBy end blocks = All (BlockEndsBy end) blocks

-- the blocks and the files that were seen of a Segment do
pub record SegmentEndsBy (end : ℕ) (seen : SegmentSeen) : Type 0 where
  pub blocks : BlocksEndBy end seen.blocks
  pub files : IfSome seen.files (AllEndBy end)

-- the spans that were seen of a TrackEntry keep inside
pub record EntryKeeps (end : ℕ) (seen : EntrySeen) : Type 0 where
  pub codec : IfSome seen.codec (IsSpan end)
  pub private : IfSome seen.private (IsSpan end)

-- a checksum of four bytes ends at a place or before
pub record IsChecksum (end : ℕ) (span : Span) : Type 0 where
  pub four : span.start + 4 ≡ span.end
  pub within : span.end ≤ end

-- the checksum and the block that were seen of a Cluster keep inside
pub record ClusterKeeps (end : ℕ) (seen : ClusterSeen) : Type 0 where
  pub checksum : IfSome seen.checksum (IsChecksum end)
  pub block : IfSome seen.block (BlockEndsBy end)

-- The Clusters of a Matroska file (RFC 9559, section 5.1.3), of one SimpleBlock each, and whether their checksums hold.
use Rattle.std.specs.Prelude.{ℕ, ◌+◌, ◌-◌, ◌/◌, ◌%◌, ◌==◌, ◌&&◌, ◌||◌, nat_le, not, Bool, true, false, if◌then◌else◌, List, [], ◌∷◌, length, get_or, Option, Some, None}
use Rattle.byteorder.specs.Endian.{little_number}
use Rattle.cook_bits.specs.Crc.{crc32_ebml_of}
use Rattle.ebml_core.specs.Reading.{size_at}
use Rattle.ebml_core.specs.declared.parts.Size.{Size}
use Rattle.ebml_core.specs.declared.parts.Size.TheVariants.{Known, Unknown}
use Rattle.shelf_reader.specs.Readings.{gives, fails, looks, thence}
use Rattle.shelf_reader.specs.Seen.{between}
use Rattle.matroska_names.specs.declared.ids.TheConstants.{SIMPLE_BLOCK as simple_block, BLOCK_GROUP as block_group, CRC_32 as crc_32}
use Rattle.matroska_read.specs.Tracks.{has_number}
use Rattle.matroska_read.specs.Walk.{Read, Visits, content_of, span_of, walked_children}
use Rattle.matroska_read.specs.declared.error.OutlineFault.TheVariants.{Shape}
use Rattle.matroska_read.specs.declared.parts.BlockHead.{BlockHead}
use Rattle.matroska_read.specs.declared.parts.Element.{Element}
use Rattle.matroska_read.specs.declared.parts.Span.{Span}
use Rattle.matroska_read.specs.declared.parts.ClusterSeen.{ClusterSeen}
use Rattle.matroska_read.specs.declared.tracks.BlockAt.{BlockAt}
use Rattle.matroska_read.specs.declared.tracks.Track.{Track}

-- ---- the head of a block

-- the lacing bits of a block's flags (RFC 9559, section 10.2)
abbrev pub lacing_of : ℕ → ℕ
lacing_of flags = flags / 2 % 4

-- A block's head is the number of its track, spelled as a size is, a time of two bytes, and flags that have no lacing.
unfoldable pub head_behind : List ℕ → Size → ℕ → Option BlockHead
head_behind bytes Unknown len = None
head_behind bytes (Known track) len =
    if nat_le (len + 3) (length bytes) && lacing_of (get_or bytes (len + 2) 0) == 0 then Some (record { track = track; len = len + 3 }) else None

abbrev pub block_head_of : List ℕ → Option (Size × ℕ) → Option BlockHead
block_head_of bytes None = None
block_head_of bytes (Some size) = head_behind bytes size.0 size.1

-- the head that a block's bytes begin with
unfoldable pub block_head : List ℕ → Option BlockHead
block_head bytes = block_head_of bytes (size_at bytes)

unfoldable pub block_head_in : Element → List ℕ → Option BlockHead
block_head_in element bytes = block_head (content_of element bytes)

-- ---- a block

-- the block of a head, of a track that was listed
unfoldable pub block_of : List Track → Element → Option BlockHead → Read BlockAt
block_of tracks element None = fails (Shape element.place)
block_of tracks element (Some head) =
    if has_number head.track tracks then
    gives (record { track = head.track; at = element.start + head.len; len = element.end - (element.start + head.len); damaged = false })
    else fails (Shape element.place)

unfoldable pub block_read : List Track → Element → Read BlockAt
block_read tracks element = looks (block_head_in element) (block_of tracks element)

-- ---- a Cluster

-- nothing of a Cluster behind these tracks was seen
abbrev pub no_cluster : List Track → ClusterSeen
no_cluster tracks = record { tracks = tracks; begun = false; checksum = None; block = None; faulty = false }

-- with a block more: a second one is one too many
abbrev pub block_added : ClusterSeen → BlockAt → Option BlockAt → ClusterSeen
block_added seen block None = record { tracks = seen.tracks; begun = true; checksum = seen.checksum; block = Some block; faulty = seen.faulty }
block_added seen block (Some first) = record { tracks = seen.tracks; begun = true; checksum = seen.checksum; block = Some first; faulty = true }

abbrev pub with_block : ClusterSeen → BlockAt → ClusterSeen
with_block seen block = block_added seen block seen.block

-- a checksum is one of four bytes, and its parent's first child
abbrev pub is_checksum : ClusterSeen → Element → Bool
is_checksum seen child = child.id == crc_32 && (not seen.begun && child.end - child.start == 4)

-- a child of a Cluster, and what was seen before it
unfoldable pub visit_cluster : Visits ClusterSeen
visit_cluster seen child =
    if child.id == simple_block then thence (block_read seen.tracks child) (λ block. gives (with_block seen block))
    else (if child.id == block_group then gives (record { tracks = seen.tracks; begun = true; checksum = seen.checksum; block = seen.block; faulty = true })
    else (if is_checksum seen child then gives (record { tracks = seen.tracks; begun = true; checksum = Some (span_of child); block = seen.block; faulty = seen.faulty })
    else gives (record { tracks = seen.tracks; begun = true; checksum = seen.checksum; block = seen.block; faulty = seen.faulty })))

-- the bytes behind a checksum, up to an end, don't agree with it
unfoldable pub disagrees : Span → ℕ → List ℕ → Bool
disagrees checksum end bytes = not (crc32_ebml_of (between checksum.end end bytes) == little_number 4 (between checksum.start checksum.end bytes))

abbrev pub with_damage : BlockAt → Bool → BlockAt
with_damage block damaged = record { track = block.track; at = block.at; len = block.len; damaged = damaged }

-- the checksum of the bytes from one place up to another
unfoldable pub checksum_of_between : ℕ → ℕ → List ℕ → ℕ
checksum_of_between from to bytes = crc32_ebml_of (between from to bytes)

-- a block of a Cluster that ends there, where its checksum was tested
unfoldable pub block_tested : BlockAt → Option Span → ℕ → Read BlockAt
block_tested block None end = gives block
block_tested block (Some checksum) end = looks (disagrees checksum end) (λ damaged. gives (with_damage block damaged))

-- a Cluster has one SimpleBlock, and no BlockGroup
unfoldable pub cluster_of : Element → ClusterSeen → Option BlockAt → Read (List Track × BlockAt)
cluster_of element seen None = fails (Shape element.place)
cluster_of element seen (Some block) = if seen.faulty then fails (Shape element.place) else thence (block_tested block seen.checksum element.end) (λ tested. gives (seen.tracks, tested))

-- the block of a Cluster behind these tracks, which stay as they are
unfoldable pub cluster_read : List Track → Element → Read (List Track × BlockAt)
cluster_read tracks element = thence (walked_children visit_cluster element (no_cluster tracks)) (λ seen. cluster_of element seen seen.block)

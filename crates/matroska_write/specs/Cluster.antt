-- A block of a track as a Cluster of its own (RFC 9559, section 5.1.3).
use Rattle.std.specs.Prelude.{ℕ, ◌+◌, List, [], ◌∷◌, ◌++◌}
use Rattle.std.specs.Int.{w32, to_le_bytes}
use Rattle.cook_bits.specs.Crc.{crc32_ebml_of}
use Rattle.ebml_core.specs.Element.{element, uint_element, head_of}
use Rattle.matroska_names.specs.declared.ids.TheConstants.{CLUSTER, CRC_32, SIMPLE_BLOCK, TIMESTAMP}

-- what a SimpleBlock has before the coded block: the track's number as a VINT of one byte, the time after the Cluster's in two
-- bytes, which is none, and the flags, of which that of a keyframe is set
abbrev pub block_head : ℕ → List ℕ
block_head track = (128 + track) ∷ 0 ∷ 0 ∷ 128 ∷ []

-- what a Cluster has behind its CRC-32, up to the first byte of a coded block of so many bytes
unfoldable pub timed_head : ℕ → ℕ → ℕ → List ℕ
timed_head track time len = uint_element TIMESTAMP time ++ (head_of SIMPLE_BLOCK (4 + len) ++ block_head track)

-- what a Cluster has behind its CRC-32: its Timestamp and one SimpleBlock
unfoldable pub timed_block : ℕ → ℕ → List ℕ → List ℕ
timed_block track time body = uint_element TIMESTAMP time ++ element SIMPLE_BLOCK (block_head track ++ body)

-- the CRC-32 of the parent's other bytes, as its first child (RFC 8794, section 11.3.1)
unfoldable pub crc_element : List ℕ → List ℕ
crc_element others = element CRC_32 (to_le_bytes w32 (crc32_ebml_of others))

-- the Cluster of a block
unfoldable pub cluster_of : ℕ → ℕ → List ℕ → List ℕ
cluster_of track time body = element CLUSTER (crc_element (timed_block track time body) ++ timed_block track time body)

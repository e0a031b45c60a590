-- Samples of sound, the bytes that hold them, and blocks of them (Multimedia Programming Interface and Data Specifications
-- 1.0, Waveform Audio File Format: "Data Packing for PCM WAVE Files" and "Data Format of the Samples").
use Rattle.std.specs.Prelude.{ℕ, zero, suc, ◌+◌, ◌-◌, ◌*◌, ◌/◌, ◌^◌, ◌==◌, nat_lt, Bool, ◌||◌, IsTrue, if◌then◌else◌, ℤ, pos, negsuc, neg_ℤ, ◌-ℤ◌, ◌≤ℤ◌, ◌<ℤ◌, List, [], ◌∷◌, ◌++◌, length, take, drop, map, flat_map, slice_index, slice_index_or}
use Rattle.byteorder.specs.Endian.{little_number, little_bytes, twos_complement}

-- samples are of 8, 16 or 24 bits, and each is kept in whole bytes
abbrev pub is_depth : ℕ → Bool
is_depth bits = bits == 8 || bits == 16 || bits == 24

abbrev pub IsDepth : ℕ → Type 0
IsDepth bits = IsTrue (is_depth bits)

-- a sample is from -2^(bits - 1) to 2^(bits - 1) - 1
pub record IsInside (bits : ℕ) (sample : ℤ) : Type 0 where
  pub low : neg_ℤ (pos (2 ^ (bits - 1))) ≤ℤ sample
  pub high : sample <ℤ pos (2 ^ (bits - 1))

-- the sample at a place of a list; 0 past its end
abbrev pub sample_at : List ℤ → ℕ → ℤ
sample_at samples place = slice_index_or samples place (pos 0)

-- each of the samples is
pub record AreInside (bits : ℕ) (samples : List ℤ) : Type 0 where
  pub each : (place : ℕ) → IsInside bits (sample_at samples place)

-- The sample that bytes hold. At 8 bits the byte is the sample with half of the range added; wider ones are in two's
-- complement, the lowest byte first.
unfoldable pub sample_of : ℕ → List ℕ → ℤ
sample_of bits bytes =
    if bits == 8 then pos (slice_index bytes 0) -ℤ pos 128 else twos_complement (bits / 8) (little_number (bits / 8) bytes)

-- the number that stands for another in two's complement, with half of as many numbers as the bits have
abbrev pub signed_of : ℕ → ℕ → ℤ
signed_of kept half = if nat_lt kept half then pos kept else pos kept -ℤ pos (2 * half)

-- and the other way
abbrev pub unsigned_of : ℤ → ℕ → ℕ
unsigned_of (pos n) half = n
unsigned_of (negsuc n) half = 2 * half - suc n

-- the number that is kept of a sample
unfoldable pub kept_of : ℕ → ℤ → ℕ
kept_of bits (pos n) = if bits == 8 then n + 128 else n
kept_of bits (negsuc n) = if bits == 8 then 127 - n else 2 ^ bits - suc n

-- the bytes that hold a sample
unfoldable pub sample_bytes : ℕ → ℤ → List ℕ
sample_bytes bits sample = little_bytes (bits / 8) (kept_of bits sample)

-- ---- blocks

-- one of the stretches of so many bytes that stand one after the other
abbrev pub stretch : ℕ → ℕ → List ℕ → List ℕ
stretch size k bytes = take size (drop (k * size) bytes)

-- what each of the first stretches holds, so many of so many bytes
unfoldable pub of_stretches : {A : Type 0} → (List ℕ → A) → ℕ → ℕ → List ℕ → List A
of_stretches value size zero bytes = []
of_stretches value size (suc count) bytes = of_stretches value size count bytes ++ value (stretch size count bytes) ∷ []

-- the bytes of a block: one sample of each channel
abbrev pub block_len : ℕ → ℕ → ℕ
block_len bits channels = channels * (bits / 8)

-- a block: the samples of its channels, in their order
abbrev pub block_of : ℕ → ℕ → List ℕ → List ℤ
block_of bits channels bytes = of_stretches (sample_of bits) (bits / 8) channels bytes

-- so many blocks, one after the other
abbrev pub blocks_of : ℕ → ℕ → ℕ → List ℕ → List (List ℤ)
blocks_of bits channels count bytes = of_stretches (block_of bits channels) (block_len bits channels) count bytes

-- the samples of one channel
abbrev pub channel_of : ℕ → List (List ℤ) → List ℤ
channel_of channel blocks = map (λ block. sample_at block channel) blocks

-- the bytes that hold a block
abbrev pub block_bytes : ℕ → List ℤ → List ℕ
block_bytes bits block = flat_map (sample_bytes bits) block

-- the bytes that hold blocks
abbrev pub bytes_of_blocks : ℕ → List (List ℤ) → List ℕ
bytes_of_blocks bits blocks = flat_map (block_bytes bits) blocks

-- bytes in which others stand from a place on
abbrev pub put_at : ℕ → List ℕ → List ℕ → List ℕ
put_at place new bytes = take place bytes ++ new ++ drop (place + length new) bytes

-- the first blocks' bytes, so many of so many bytes, in each of which a sample stands at a place
unfoldable pub put_in_each : ℕ → ℕ → ℕ → ℕ → List ℤ → List ℕ → List ℕ
put_in_each bits place size zero samples bytes = []
put_in_each bits place size (suc count) samples bytes =
    put_in_each bits place size count samples bytes ++ put_at place (sample_bytes bits (sample_at samples count)) (stretch size count bytes)

-- the bytes of blocks in which one channel has these samples, and the others have theirs
unfoldable pub with_channel : ℕ → ℕ → ℕ → List ℤ → List ℕ → List ℕ
with_channel bits channels channel samples bytes =
    put_in_each bits (channel * (bits / 8)) (block_len bits channels) (length samples) samples bytes

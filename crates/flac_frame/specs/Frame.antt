-- A whole frame (RFC 9639, section 9).
use Rattle.std.specs.Prelude.{ℕ, zero, suc, ◌+◌, ◌-◌, ◌/◌, ◌%◌, ◌==◌, Bool, nat_lt, if◌then◌else◌, min, ℤ, ◌+ℤ◌, ◌-ℤ◌, List, [], ◌∷◌, ◌++◌, length, take, drop, Option, Some, None, Result, Ok, Err}
use Rattle.std.specs.Int.{int_shr}
use Rattle.cook_bits.specs.Bits.{bits_of}
use Rattle.cook_bits.specs.Crc.{crc8_of, crc16_of}
use Rattle.flac_predict.specs.Samples.{is_inside}
use Rattle.flac_frame.specs.declared.error.FlacWhy.{FlacWhy}
use Rattle.flac_frame.specs.declared.error.FlacWhy.TheVariants.{HeaderCrc, Range, FrameCrc, Long}
use Rattle.flac_frame.specs.declared.stream_info.StreamInfo.{StreamInfo}
use Rattle.flac_frame.specs.declared.stereo.Pair.{Pair}
use Rattle.flac_frame.specs.Reading.{◌>>=◌, expected_at}
use Rattle.flac_frame.specs.Header.{header_at}
use Rattle.flac_frame.specs.Subframe.{subframe_at}

-- the bytes before the whole bytes that are left
abbrev pub bytes_before : List ℕ → List Bool → List ℕ
bytes_before bytes left = take (length bytes - length left / 8) bytes

-- the bits behind those that end the last byte
abbrev pub whole_bytes : List Bool → List Bool
whole_bytes left = drop (length left % 8) left

-- the bits of a sample of a channel by the channels' code (section 9.1.3): the channel of differences has one more
abbrev pub depth_of : ℕ → ℕ → ℕ → ℕ
depth_of code bits k =
    if code == 8 then (if k == 1 then bits + 1 else bits)
    else if code == 9 then (if k == 0 then bits + 1 else bits)
    else if code == 10 then (if k == 1 then bits + 1 else bits)
    else bits

-- the subframes of so many channels from a channel on
unfoldable pub subframes_at : ℕ → ℕ → ℕ → ℕ → ℕ → List Bool → Result (List (List ℤ) × List Bool) FlacWhy
subframes_at code depth size k zero bits = Ok ([], bits)
subframes_at code depth size k (suc count) bits = do
  first ← subframe_at (depth_of code depth k) size bits
  others ← subframes_at code depth size (suc k) count first.1
  Ok (first.0 ∷ others.0, others.1)

-- what is added to the middle, the floor of half the sum, for the right sample, given left minus right
abbrev pub right_of : ℤ → ℤ → ℤ
right_of mid side = mid -ℤ int_shr side 1

-- left and right of two channels that are stored, by the code
abbrev pub left_by : ℕ → ℤ → ℤ → ℤ
left_by code first second =
    if code == 8 then first
    else if code == 9 then first +ℤ second
    else right_of first second +ℤ second

abbrev pub right_by : ℕ → ℤ → ℤ → ℤ
right_by code first second =
    if code == 8 then first -ℤ second
    else if code == 9 then second
    else right_of first second

-- a sample that is inside its bits
unfoldable pub narrowed : ℕ → ℤ → Option ℤ
narrowed depth sample = if is_inside depth sample then Some sample else None

abbrev pub both : Option ℤ → Option ℤ → Result Pair FlacWhy
both None right = Err Range
both (Some left) None = Err Range
both (Some left) (Some right) = Ok (record { left = left; right = right })

-- the left and the right sample of two that are stored, each inside its bits
unfoldable pub pair_of : ℕ → ℕ → ℤ → ℤ → Result Pair FlacWhy
pair_of code depth first second = both (narrowed depth (left_by code first second)) (narrowed depth (right_by code first second))

abbrev pub with_pair : List ℤ → List ℤ → Result (List ℤ × List ℤ) FlacWhy → Result (List ℤ × List ℤ) FlacWhy
with_pair left right read = read >>= λ x. Ok (left ++ x.0, right ++ x.1)

-- the left and the right samples of two channels that are stored
unfoldable pub stereo_of : ℕ → ℕ → List ℤ → List ℤ → Result (List ℤ × List ℤ) FlacWhy
stereo_of code depth [] ys = Ok ([], [])
stereo_of code depth (x ∷ xs) [] = Ok ([], [])
stereo_of code depth (x ∷ xs) (y ∷ ys) =
    pair_of code depth x y >>= λ pair. with_pair (pair.left ∷ []) (pair.right ∷ []) (stereo_of code depth xs ys)

abbrev pub two_rows : Result (List ℤ × List ℤ) FlacWhy → Result (List (List ℤ)) FlacWhy
two_rows read = read >>= λ x. Ok (x.0 ∷ x.1 ∷ [])

abbrev pub restored : ℕ → ℕ → List (List ℤ) → Result (List (List ℤ)) FlacWhy
restored code depth (first ∷ second ∷ []) = two_rows (stereo_of code depth first second)
restored code depth rows = Ok rows

-- the samples of each channel
unfoldable pub decorrelated : ℕ → ℕ → List (List ℤ) → Result (List (List ℤ)) FlacWhy
decorrelated code depth rows = if nat_lt code 8 then Ok rows else restored code depth rows

-- what stands behind the fields of the header: the CRC of all before it
unfoldable pub header_end_at : List ℕ → List Bool → Result (List Bool) FlacWhy
header_end_at bytes bits = expected_at 8 (crc8_of (bytes_before bytes bits)) HeaderCrc bits

-- what stands behind the subframes: bits up to a whole byte, whatever they are, and the CRC of all before it
unfoldable pub end_at : List ℕ → List Bool → Result (List Bool) FlacWhy
end_at bytes bits = let left = whole_bytes bits in expected_at 16 (crc16_of (bytes_before bytes left)) FrameCrc left

-- the samples of so many channels
unfoldable pub samples_at : ℕ → ℕ → ℕ → ℕ → List Bool → Result (List (List ℤ) × List Bool) FlacWhy
samples_at code depth size count bits = do
  channels ← subframes_at code depth size 0 count bits
  samples ← decorrelated code depth channels.0
  Ok (samples, channels.1)

-- the samples of the frame that the bytes are, for a stream and a block with room for so many samples of each channel
unfoldable pub frame_read : StreamInfo → ℕ → List ℕ → Result (List (List ℤ)) FlacWhy
frame_read info room bytes = do
  header ← header_at info (min info.max_block room) (bits_of bytes)
  crc ← header_end_at bytes header.1
  samples ← samples_at header.0.channel_code info.bits header.0.size info.channels crc
  end ← end_at bytes samples.1
  if length end == 0 then Ok samples.0 else Err Long

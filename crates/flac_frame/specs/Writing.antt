-- The frame that is written of a block (RFC 9639, section 9): the choices of its writer, and its bytes.
use Rattle.std.specs.Prelude.{ℕ, zero, suc, ◌+◌, ◌-◌, ◌*◌, ◌/◌, ◌%◌, ◌^◌, ◌==◌, Bool, false, nat_lt, if◌then◌else◌, ℤ, ◌+ℤ◌, ◌-ℤ◌, List, [], ◌∷◌, ◌++◌, length, replicate}
use Rattle.std.specs.Int.{int_shr, bytes_high_first}
use Rattle.std.specs.Option.{unwrap_or}
use Rattle.cook_bits.specs.Bits.{low_bits, bytes_of}
use Rattle.cook_bits.specs.Crc.{crc8_of, crc16_of}
use Rattle.flac_predict.specs.Least.{least_of}
use Rattle.flac_predict.specs.Choice.{best_candidate, candidate_bits}
use Rattle.std.specs.Prelude.{◌<◌}
use Rattle.std.specs.List.{flat_map}
use Rattle.flac_predict.specs.Samples.{AreInside}
use Rattle.flac_frame.specs.Samples.{BlockValue, channel_of}
use Rattle.flac_frame.specs.declared.stream_info.StreamInfo.{StreamInfo}
use Rattle.flac_frame.specs.declared.encoding.channels.Mode.{Mode}
use Rattle.flac_frame.specs.Frame.{depth_of}
use Rattle.flac_frame.specs.Spelling.{subframe_bits}

-- a channel by its best choice, and how many bits that takes
abbrev pub best_subframe : ℕ → List ℤ → List Bool
best_subframe depth samples = subframe_bits depth samples (best_candidate depth samples)

abbrev pub best_bits : ℕ → List ℤ → ℕ
best_bits depth samples = candidate_bits depth samples (best_candidate depth samples)

-- a number of each two at the same place
unfoldable pub pairwise : (ℤ → ℤ → ℤ) → List ℤ → List ℤ → List ℤ
pairwise f [] right = []
pairwise f (l ∷ left) [] = []
pairwise f (l ∷ left) (r ∷ right) = f l r ∷ pairwise f left right

-- left minus right, and the floor of half of their sum
abbrev pub side_of : ℤ → ℤ → ℤ
side_of l r = l -ℤ r

abbrev pub mid_of : ℤ → ℤ → ℤ
mid_of l r = int_shr (l +ℤ r) 1

abbrev pub sides : List ℤ → List ℤ → List ℤ
sides left right = pairwise side_of left right

abbrev pub mids : List ℤ → List ℤ → List ℤ
mids left right = pairwise mid_of left right

-- two channels as they are stored, by their code (section 9.1.3): 1 is each by itself, 8 left and side, 9 side and right,
-- 10 mid and side
abbrev pub first_by : ℕ → List ℤ → List ℤ → List ℤ
first_by code left right =
    if code == 9 then sides left right else if code == 10 then mids left right else left

abbrev pub second_by : ℕ → List ℤ → List ℤ → List ℤ
second_by code left right =
    if code == 8 then sides left right else if code == 10 then sides left right else right

abbrev pub pair_bits : ℕ → List ℤ → List ℤ → ℕ → ℕ
pair_bits depth left right code =
    best_bits (depth_of code depth 0) (first_by code left right) + best_bits (depth_of code depth 1) (second_by code left right)

-- the code under which two channels take the fewest bits, the first of these on a tie
unfoldable pub best_code : ℕ → List ℤ → List ℤ → ℕ
best_code depth left right = unwrap_or (least_of (pair_bits depth left right) (1 ∷ 8 ∷ 9 ∷ 10 ∷ [])) 1

-- the code of channels, and the channels as they are stored
abbrev pub code_of : ℕ → List (List ℤ) → ℕ
code_of depth [] = 0
code_of depth (mono ∷ []) = 0
code_of depth (left ∷ right ∷ []) = best_code depth left right
code_of depth (first ∷ second ∷ third ∷ more) = length more + 2

abbrev pub stored_by : ℕ → List (List ℤ) → List (List ℤ)
stored_by code (left ∷ right ∷ []) = first_by code left right ∷ second_by code left right ∷ []
stored_by code channels = channels

-- the subframes of channels from a channel on
unfoldable pub subframes_bits : ℕ → ℕ → ℕ → List (List ℤ) → List Bool
subframes_bits code depth k [] = []
subframes_bits code depth k (row ∷ rows) = best_subframe (depth_of code depth k) row ++ subframes_bits code depth (suc k) rows

-- the codes of the header (section 9.1): a block of 4,096 samples has one of its own
abbrev pub size_code_of : ℕ → ℕ
size_code_of size = if size == 4096 then 12 else 7

abbrev pub bits_code_of : ℕ → ℕ
bits_code_of depth = if depth == 8 then 1 else if depth == 16 then 4 else 6

-- the coded number (section 9.1.5) of one below 2^31: how many bytes follow the first, and what the first begins with
abbrev pub bytes_more : ℕ → ℕ
bytes_more number =
    if nat_lt number (2 ^ 7) then 0
    else if nat_lt number (2 ^ 11) then 1
    else if nat_lt number (2 ^ 16) then 2
    else if nat_lt number (2 ^ 21) then 3
    else if nat_lt number (2 ^ 26) then 4
    else 5

abbrev pub lead_of : ℕ → ℕ
lead_of count = if count == 0 then 0 else 256 - 2 ^ (7 - count)

unfoldable pub later_bits : ℕ → ℕ → List Bool
later_bits zero number = []
later_bits (suc count) number = low_bits 8 (128 + number / 2 ^ (6 * count) % 64) ++ later_bits count number

unfoldable pub coded_bits : ℕ → List Bool
coded_bits number =
    let count = bytes_more number in low_bits 8 (lead_of count + number / 2 ^ (6 * count)) ++ later_bits count number

-- the size less one, where it has no code
unfoldable pub size_bits : ℕ → List Bool
size_bits size = if size == 4096 then [] else low_bits 16 (size - 1)

-- the header but for its CRC
unfoldable pub header_bits : ℕ → ℕ → ℕ → ℕ → List Bool
header_bits depth code size number =
    low_bits 15 0x7FFC ++ (low_bits 1 0 ++ (low_bits 4 (size_code_of size) ++ (low_bits 4 0 ++ (low_bits 4 code
    ++ (low_bits 3 (bits_code_of depth) ++ (low_bits 1 0 ++ (coded_bits number ++ size_bits size)))))))

unfoldable pub head_of : ℕ → ℕ → ℕ → ℕ → List ℕ
head_of depth code size number = let head = bytes_of (header_bits depth code size number) in head ++ crc8_of head ∷ []

-- with zero bits up to a whole byte
abbrev pub padded : List Bool → List Bool
padded bits = bits ++ replicate ((8 - length bits % 8) % 8) false

abbrev pub size_of : List (List ℤ) → ℕ
size_of [] = 0
size_of (row ∷ rows) = length row

-- the bytes of the frame of a number that has these samples of each channel
unfoldable pub flac_of : List (List ℤ) → StreamInfo → ℕ → List ℕ
flac_of channels info number =
    let code = code_of info.bits channels in
    let subframes = subframes_bits code info.bits 0 (stored_by code channels) in
    let body = head_of info.bits code (size_of channels) number ++ bytes_of (padded subframes) in
    body ++ bytes_high_first 2 (crc16_of body)

-- a code of two channels and the bits under it, unless the next has fewer
abbrev pub lesser : Mode → Mode → Mode
lesser first next = if nat_lt next.bits first.bits then next else first

-- the code of the fewest bits, given those of left, right, side and mid
unfoldable pub code_by : ℕ → ℕ → ℕ → ℕ → ℕ
code_by left right side mid =
    let each : Mode = record { code = 1; bits = left + right } in
    let left_side : Mode = record { code = 8; bits = left + side } in
    let side_right : Mode = record { code = 9; bits = side + right } in
    let mid_side : Mode = record { code = 10; bits = mid + side } in
    (lesser each (lesser left_side (lesser side_right mid_side))).code

-- channels that are stored each by itself
unfoldable pub each_bits : ℕ → List (List ℤ) → List Bool
each_bits bits = flat_map (best_subframe bits)

-- each channel of a block is inside its bits
pub record AreAllInside (bits : ℕ) (block : BlockValue) : Type 0 where
  pub each : (k : ℕ) → k < block.channels → AreInside bits (channel_of block k)

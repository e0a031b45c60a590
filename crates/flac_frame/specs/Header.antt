-- The header of a frame (RFC 9639, section 9.1). Each field is tested once it is whole.
use Rattle.std.specs.Prelude.{ℕ, zero, suc, ◌+◌, ◌-◌, ◌*◌, ◌^◌, ◌==◌, ◌&&◌, Bool, true, false, nat_le, nat_lt, if◌then◌else◌, List, Result, Ok}
use Rattle.flac_frame.specs.declared.error.FlacWhy.{FlacWhy}
use Rattle.flac_frame.specs.declared.error.FlacWhy.TheVariants.{Sync, Header as Refused}
use Rattle.flac_frame.specs.declared.stream_info.StreamInfo.{StreamInfo}
use Rattle.flac_frame.specs.declared.header.Header.{Header}
use Rattle.flac_frame.specs.Reading.{◌>>=◌, field_at, accepted_at, expected_at}

-- the samples of a block by its code (section 9.1.1); 6 and 7 stand for a field of their own
abbrev pub size_of : ℕ → ℕ
size_of code = if code == 1 then 192 else if nat_lt code 6 then 576 * 2 ^ (code - 2) else 2 ^ code

-- 0 is reserved, and a block has at most so many samples
abbrev pub is_size_code : ℕ → ℕ → Bool
is_size_code most code =
    if code == 0 then false else if code == 6 then true else if code == 7 then true else nat_le (size_of code) most

-- 15 is forbidden (section 9.1.2)
abbrev pub is_rate_code : ℕ → Bool
is_rate_code code = nat_lt code 15

-- the channels by their code (section 9.1.3); 11 to 15 are reserved
abbrev pub channels_by : ℕ → ℕ
channels_by code = if nat_lt code 8 then code + 1 else if nat_lt code 11 then 2 else 0

-- the bits of a sample by their code (section 9.1.4), where 0 stands for the stream's; 3 is reserved
abbrev pub bits_by : ℕ → ℕ → ℕ
bits_by stream code =
    if code == 0 then stream
    else if code == 1 then 8
    else if code == 2 then 12
    else if code == 3 then 0
    else if code == 4 then 16
    else if code == 5 then 20
    else if code == 6 then 24
    else 32

-- the coded number (section 9.1.5): how many bytes follow the first one
abbrev pub is_first : ℕ → Bool
is_first byte = if nat_lt byte 128 then true else if nat_lt byte 192 then false else nat_lt byte 255

abbrev pub bytes_behind : ℕ → ℕ
bytes_behind byte =
    if nat_lt byte 192 then 0
    else if nat_lt byte 224 then 1
    else if nat_lt byte 240 then 2
    else if nat_lt byte 248 then 3
    else if nat_lt byte 252 then 4
    else if nat_lt byte 254 then 5
    else 6

abbrev pub is_later : ℕ → Bool
is_later byte = nat_le 128 byte && nat_lt byte 192

unfoldable pub later_at : ℕ → List Bool → Result (List Bool) FlacWhy
later_at zero bits = Ok bits
later_at (suc count) bits = do
  byte ← accepted_at 8 is_later Refused bits
  later_at count byte.1

unfoldable pub coded_at : List Bool → Result (List Bool) FlacWhy
coded_at bits = do
  first ← accepted_at 8 is_first Refused bits
  later_at (bytes_behind first.0) first.1

abbrev pub one_more : ℕ × List Bool → Result (ℕ × List Bool) FlacWhy
one_more less = Ok (less.0 + 1, less.1)

-- the samples of a block, of which there may be so many
unfoldable pub size_at : ℕ → ℕ → List Bool → Result (ℕ × List Bool) FlacWhy
size_at most code bits =
    if code == 6 then (accepted_at 8 (λ less. nat_le (less + 1) most) Refused bits >>= one_more)
    else if code == 7 then (accepted_at 16 (λ less. nat_le (less + 1) most) Refused bits >>= one_more)
    else Ok (size_of code, bits)

abbrev pub passed : ℕ × List Bool → Result (List Bool) FlacWhy
passed rate = Ok rate.1

-- a rate in a field of its own (section 9.1.7), which counts for nothing
unfoldable pub rate_at : ℕ → List Bool → Result (List Bool) FlacWhy
rate_at code bits =
    if code == 12 then (field_at 8 bits >>= passed)
    else if nat_lt code 13 then Ok bits
    else (field_at 16 bits >>= passed)

-- the header but for its CRC
unfoldable pub header_at : StreamInfo → ℕ → List Bool → Result (Header × List Bool) FlacWhy
header_at info most bits = do
  sync ← expected_at 15 0x7FFC Sync bits
  blocking ← field_at 1 sync
  size_code ← accepted_at 4 (is_size_code most) Refused blocking.1
  rate_code ← accepted_at 4 is_rate_code Refused size_code.1
  channel_code ← accepted_at 4 (λ code. channels_by code == info.channels) Refused rate_code.1
  bits_code ← accepted_at 3 (λ code. bits_by info.bits code == info.bits) Refused channel_code.1
  reserved ← expected_at 1 0 Refused bits_code.1
  number ← coded_at reserved
  size ← size_at most size_code.0 number
  rate ← rate_at rate_code.0 size.1
  Ok (record { size = size.0; channel_code = channel_code.0 }, rate)

-- The parameters of a stream in its 34 bytes (RFC 9639, section 8.2). All numbers are big-endian. Behind the sizes of
-- blocks and frames one number of 64 bits holds the rate, the channels less one, the bits less one and the samples.
use Rattle.std.specs.Prelude.{◌≡◌, ℕ, ◌+◌, ◌-◌, ◌*◌, ◌/◌, ◌%◌, ◌^◌, ◌<◌, ◌≤◌, ◌==◌, ◌&&◌, ◌||◌, Bool, nat_le, if◌then◌else◌, List, ◌++◌, length, slice_range, Result, Ok, Err, IsTrue}
use Rattle.byteorder.specs.Endian.{big_number, big_bytes}
use Rattle.flac_frame.specs.declared.stream_info.StreamInfo.{StreamInfo}
use Rattle.flac_frame.specs.declared.stream_info.InfoBad.{InfoBad}

-- the bits of a sample that a wave has
abbrev pub is_depth : ℕ → Bool
is_depth bits = bits == 8 || bits == 16 || bits == 24

-- each field fits its bits, and the bits are those of a wave
pub record IsWritable (info : StreamInfo) : Type 0 where
  pub min_block : info.min_block < 2 ^ 16
  pub max_block : info.max_block < 2 ^ 16
  pub min_frame : info.min_frame < 2 ^ 24
  pub max_frame : info.max_frame < 2 ^ 24
  pub rate : info.rate < 2 ^ 20
  pub some_channels : 1 ≤ info.channels
  pub channels : info.channels ≤ 8
  pub depth : IsTrue (is_depth info.bits)
  pub total : info.total < 2 ^ 36
  pub md5 : length info.md5 ≡ 16

-- what a stream that is read has beside: a rate, and blocks of at least 16 samples
pub record IsReadable (info : StreamInfo) : Type 0 where
  pub writable : IsWritable info
  pub has_rate : 1 ≤ info.rate
  pub large : 16 ≤ info.max_block

-- the rate in 20 bits, the channels less one in 3, the bits less one in 5, and how many samples there are in 36
unfoldable pub packed : StreamInfo → ℕ
packed info = info.rate * 2 ^ 44 + (info.channels - 1) * 2 ^ 41 + (info.bits - 1) * 2 ^ 36 + info.total

-- the 34 bytes
unfoldable pub info_bytes : StreamInfo → List ℕ
info_bytes info =
    big_bytes 2 info.min_block ++ (big_bytes 2 info.max_block ++ (big_bytes 3 info.min_frame ++ (big_bytes 3 info.max_frame ++ (big_bytes 8 (packed info) ++ info.md5))))

-- the fields of 34 bytes, whatever they are
unfoldable pub fields_of : List ℕ → StreamInfo
fields_of bytes =
    let numbers = big_number 8 (slice_range bytes 10 18) in
    record {
      min_block = big_number 2 (slice_range bytes 0 2);
      max_block = big_number 2 (slice_range bytes 2 4);
      min_frame = big_number 3 (slice_range bytes 4 7);
      max_frame = big_number 3 (slice_range bytes 7 10);
      rate = numbers / 2 ^ 44;
      channels = numbers / 2 ^ 41 % 8 + 1;
      bits = numbers / 2 ^ 36 % 32 + 1;
      total = numbers % 2 ^ 36;
      md5 = slice_range bytes 18 34;
    }

-- there is a rate, the bits are those of a wave, and a block has at least 16 samples
unfoldable pub is_accepted : StreamInfo → Bool
is_accepted info = nat_le 1 info.rate && is_depth info.bits && nat_le 16 info.max_block

-- the fields of the 34 bytes, or their refusal
unfoldable pub info_read : List ℕ → Result StreamInfo InfoBad
info_read bytes = let info = fields_of bytes in if is_accepted info then Ok info else Err (record {})

-- what 34 bytes say of their fields, whatever they are
pub record FitsFields (info : StreamInfo) : Type 0 where
  pub min_block : info.min_block < 2 ^ 16
  pub max_block : info.max_block < 2 ^ 16
  pub min_frame : info.min_frame < 2 ^ 24
  pub max_frame : info.max_frame < 2 ^ 24
  pub rate : info.rate < 2 ^ 20
  pub some_channels : 1 ≤ info.channels
  pub channels : info.channels ≤ 8
  pub total : info.total < 2 ^ 36
  pub md5 : length info.md5 ≡ 16

-- The units that a line of red, green and blue samples is packed into (SMPTE 268M, image data,
-- packing): bytes at 8 bits, words of 32 bits at 10 bits and of 16 bits at 12, both filled by method
-- A, and words of 16 bits at 16 bits.
use Rattle.std.specs.Prelude.{ℕ, ◌+◌, ◌*◌, ◌/◌, ◌%◌, ◌^◌, ◌<◌, ◌==◌, Bool, if◌then◌else◌, List, [], ◌∷◌, All, slice_index}
use Rattle.byteorder.specs.Endian.{big_number, big_bytes, little_number, little_bytes}
use Rattle.dpx_packing.specs.Blocks.{Form}

-- A byte order: the number in so many bytes, and the bytes of a number.
pub record Order : Type 0 where
  pub number_of : ℕ → List ℕ → ℕ
  pub bytes_of : ℕ → ℕ → List ℕ

abbrev pub order_of : Bool → Order
order_of big =
    record {
      number_of = if big then big_number else little_number;
      bytes_of = if big then big_bytes else little_bytes;
    }

-- 8 bits: a byte is a sample, whatever the byte order
abbrev pub unit8 : Form
unit8 =
    record {
      bytes = 1;
      samples = 1;
      pads = 0;
      samples_of = λ bytes. bytes;
      pads_of = λ bytes. [];
      bytes_of = λ samples pads. samples;
    }

-- 10 bits: a word of 32 bits is 2 ^ 22 times red and 2 ^ 12 times green and 4 times blue and its pad
abbrev pub word10 : List ℕ → List ℕ → ℕ
word10 samples pads =
    2 ^ 22 * slice_index samples 0 + 2 ^ 12 * slice_index samples 1 + 4 * slice_index samples 2 + slice_index pads 0

abbrev pub samples10 : ℕ → List ℕ
samples10 word = word / 2 ^ 22 ∷ word / 2 ^ 12 % 2 ^ 10 ∷ word / 4 % 2 ^ 10 ∷ []

abbrev pub unit10 : Order → Form
unit10 order =
    record {
      bytes = 4;
      samples = 3;
      pads = 1;
      samples_of = λ bytes. samples10 (order.number_of 4 bytes);
      pads_of = λ bytes. order.number_of 4 bytes % 4 ∷ [];
      bytes_of = λ samples pads. order.bytes_of 4 (word10 samples pads);
    }

-- 12 bits: a word of 16 bits is 16 times a sample and its pad
abbrev pub word12 : List ℕ → List ℕ → ℕ
word12 samples pads = 16 * slice_index samples 0 + slice_index pads 0

abbrev pub unit12 : Order → Form
unit12 order =
    record {
      bytes = 2;
      samples = 1;
      pads = 1;
      samples_of = λ bytes. order.number_of 2 bytes / 16 ∷ [];
      pads_of = λ bytes. order.number_of 2 bytes % 16 ∷ [];
      bytes_of = λ samples pads. order.bytes_of 2 (word12 samples pads);
    }

-- 16 bits: a word of 16 bits is a sample
abbrev pub unit16 : Order → Form
unit16 order =
    record {
      bytes = 2;
      samples = 1;
      pads = 0;
      samples_of = λ bytes. order.number_of 2 bytes ∷ [];
      pads_of = λ bytes. [];
      bytes_of = λ samples pads. order.bytes_of 2 (slice_index samples 0);
    }

abbrev pub unit_of : Bool → ℕ → Form
unit_of big bits =
    if bits == 8
    then unit8
    else if bits == 10 then unit10 (order_of big) else if bits == 12 then unit12 (order_of big) else unit16 (order_of big)

-- a word a pixel at 10 bits, and else a unit a sample
abbrev pub units_in_line : ℕ → ℕ → ℕ
units_in_line bits width = if bits == 10 then width else 3 * width

-- pads of units are below this: two bits at 10 bits, and four at 12
abbrev pub pad_limit : ℕ → ℕ
pad_limit bits = if bits == 10 then 4 else 16

-- the numbers are below the limit
abbrev pub AreBelow : ℕ → List ℕ → Type 0
AreBelow limit xs = All (λ x. x < limit) xs

-- the samples and the pads of a unit are below their limits
abbrev pub FitUnit : ℕ → ℕ → List ℕ → List ℕ → Type 0
FitUnit sample_limit pad_limit samples pads = AreBelow sample_limit samples × AreBelow pad_limit pads

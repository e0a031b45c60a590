-- The fields of a DPX file's header that decide how its image lies (SMPTE 268M, file information
-- header and image information header), by their places.
use Rattle.std.specs.Prelude.{ℕ, ◌==◌, Bool, true, if◌then◌else◌, List, drop, slice_index}
use Rattle.byteorder.specs.Endian.{big_number, little_number}
use Rattle.dpx_header.specs.declared.header.Header.{Header}

-- the number in so many bytes from a place on, in the file's byte order
unfoldable pub number_at : Bool → ℕ → ℕ → List ℕ → ℕ
number_at big count place bytes =
    if big then big_number count (drop place bytes) else little_number count (drop place bytes)

-- the magic number, `SDPX`, which tells the byte order
unfoldable pub has_magic : Bool → List ℕ → Bool
has_magic big head = number_at big 4 0 head == 0x53445058

-- the fields in one byte order: offset to image data, number of image elements, pixels per line,
-- lines per image element; and of the first element the descriptor, bit depth, packing, encoding and
-- end-of-line padding
unfoldable pub header_at : Bool → List ℕ → Header
header_at big head =
    record {
      big = big;
      offset = number_at big 4 4 head;
      elements = number_at big 2 770 head;
      width = number_at big 4 772 head;
      height = number_at big 4 776 head;
      descriptor = slice_index head 800;
      depth = slice_index head 803;
      packing = number_at big 2 804 head;
      encoding = number_at big 2 806 head;
      line_padding = number_at big 4 812 head;
    }

-- the fields in the byte order that the magic number tells
abbrev pub header_of : List ℕ → Header
header_of head = header_at (has_magic true head) head

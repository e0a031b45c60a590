-- Side data read from left to right, with the first fault that is met. A fault is told by how many bytes begin with the faulty field.
use Rattle.std.specs.Prelude.{◌≡◌, ℕ, zero, suc, ◌-◌, Bool, true, ◌&&◌, not, List, [], ◌∷◌, ◌++◌, length, take, drop, Option, Some, None, Result, Ok, Err, nat_eq, nat_le, nat_lt, ◌==◌, if◌then◌else◌}
use Rattle.std.specs.Str.{is_utf8}
use Rattle.std.specs.Ordering.{nat_cmp, is_lt}
use Rattle.std.specs.Cmp.Lexicographic.{slice_cmp, pointwise}
use Rattle.std.specs.Global.{Vec}
use Rattle.byteorder.specs.Endian.{big_number}
use Rattle.cook_bits.specs.Names.{is_relative_name, holds_folder_of}
use Rattle.dpx_packing.specs.PadForms.{pad_form_len}
use Rattle.reversal.specs.declared.record.Kind.TheVariants as kinds
use Rattle.reversal.specs.declared.parts.Tag.{Tag}
use Rattle.reversal.specs.declared.parts.Tag.TheVariants as tags
use Rattle.reversal.specs.declared.parts.Parts.{Parts}
use Rattle.reversal.specs.declared.record.FileRecord.{FileRecord}
use Rattle.reversal.specs.declared.unread.Unread.{Unread}
use Rattle.reversal.specs.declared.unread.Unread.TheVariants as unread
use Rattle.reversal.specs.declared.error.SideError.{SideError}
use Rattle.reversal.specs.declared.error.SideError.TheVariants as side
use Rattle.reversal.specs.SideData.{mark, names_of}

infixl 10 ◌>>=◌
abbrev pub ◌>>=◌ : {A B : Type 0} → Result A ℕ → (A → Result B ℕ) → Result B ℕ
(Ok x) >>= f = f x
(Err left) >>= f = Err left

-- What a function returned, seen by view, is what reading gives, unless memory ran out.
abbrev pub Fails : {Y : Type 0} → Unread → Result Y ℕ → Type 0
Fails unread.NoMemory read = Unit {0}
Fails (unread.Fault left) read = read ≡ Err left

abbrev pub Gives : {X Y : Type 0} → (X → Y) → Result X Unread → Result Y ℕ → Type 0
Gives view (Ok x) read = read ≡ Ok (view x)
Gives view (Err e) read = Fails e read

-- ---- fields: a value and the bytes after it

-- so many bytes, of a field that began where `left` bytes were left
abbrev pub piece_at : ℕ → ℕ → List ℕ → Result (List ℕ × List ℕ) ℕ
piece_at left len bytes = if nat_lt (length bytes) len then Err left else Ok (take len bytes, drop len bytes)

-- a number of so many bytes, the highest first
abbrev pub number_at : ℕ → List ℕ → Result (ℕ × List ℕ) ℕ
number_at len bytes = do
  piece ← piece_at (length bytes) len bytes
  Ok (big_number len piece.0, piece.1)

-- the number of a kind: 0 of an attached file, 1 of a frame, 2 of a wave
abbrev pub tag_at : List ℕ → Result (Tag × List ℕ) ℕ
tag_at [] = Err 0
tag_at (zero ∷ rest) = Ok (tags.Other, rest)
tag_at (suc zero ∷ rest) = Ok (tags.Frame, rest)
tag_at (suc (suc zero) ∷ rest) = Ok (tags.Wave, rest)
tag_at (suc (suc (suc number)) ∷ rest) = Err (suc (length rest))

-- a text, of a field that began where `left` bytes were left
abbrev pub text_at : ℕ → List ℕ → Result (List ℕ) ℕ
text_at left bytes = if is_utf8 bytes then Ok bytes else Err left

-- the length of a name and the name, which is one field
unfoldable pub name_at : List ℕ → Result (List ℕ × List ℕ) ℕ
name_at bytes = do
  len ← number_at 2 bytes
  piece ← piece_at (length bytes) len.0 len.1
  name ← text_at (length bytes) piece.0
  Ok (name, piece.1)

-- the number of a track, which is 1 to 126
abbrev pub track_at : List ℕ → Result (ℕ × List ℕ) ℕ
track_at [] = Err 0
track_at (track ∷ rest) = if nat_le 1 track && nat_le track 126 then Ok (track, rest) else Err (suc (length rest))

-- the length of bytes, in eight bytes, and the bytes, which is one field
unfoldable pub block_at : List ℕ → Result (List ℕ × List ℕ) ℕ
block_at bytes = do
  len ← number_at 8 bytes
  piece_at (length bytes) len.0 len.1

-- a whole form of pads, which is one field
abbrev pub form_until : List ℕ → Option ℕ → Result (List ℕ × List ℕ) ℕ
form_until bytes None = Err (length bytes)
form_until bytes (Some len) = Ok (take len bytes, drop len bytes)

unfoldable pub form_at : List ℕ → Result (List ℕ × List ℕ) ℕ
form_at bytes = form_until bytes (pad_form_len bytes)

-- ---- what a record has by its kind

unfoldable pub frame_at : List ℕ → Result (Parts × List ℕ) ℕ
frame_at bytes = do
  track ← track_at bytes
  index ← number_at 4 track.1
  head ← block_at index.1
  pads ← form_at head.1
  tail ← block_at pads.1
  Ok (record { kind = kinds.Frame track.0 index.0; head = head.0; pads = pads.0; tail = tail.0 }, tail.1)

unfoldable pub wave_at : List ℕ → Result (Parts × List ℕ) ℕ
wave_at bytes = do
  track ← track_at bytes
  head ← block_at track.1
  tail ← block_at head.1
  Ok (record { kind = kinds.Wave track.0; head = head.0; pads = []; tail = tail.0 }, tail.1)

abbrev pub parts_at : Tag → List ℕ → Result (Parts × List ℕ) ℕ
parts_at tags.Other bytes = Ok (record { kind = kinds.Other; head = []; pads = []; tail = [] }, bytes)
parts_at tags.Frame bytes = frame_at bytes
parts_at tags.Wave bytes = wave_at bytes

-- ---- records

abbrev pub record_with : List ℕ → ℕ → List ℕ → Parts → FileRecord
record_with name len sum parts = record { name = name; kind = parts.kind; length = len; md5 = sum; head = parts.head; pads = parts.pads; tail = parts.tail }

unfoldable pub record_at : List ℕ → Result (FileRecord × List ℕ) ℕ
record_at bytes = do
  tag ← tag_at bytes
  name ← name_at tag.1
  len ← number_at 8 name.1
  sum ← piece_at (length len.1) 16 len.1
  parts ← parts_at tag.0 sum.1
  Ok (record_with name.0 len.0 sum.0 parts.0, parts.1)

unfoldable pub records_at : ℕ → List ℕ → Result (List FileRecord × List ℕ) ℕ
records_at zero bytes = Ok ([], bytes)
records_at (suc count) bytes = do
  first ← record_at bytes
  others ← records_at count first.1
  Ok (first.0 ∷ others.0, others.1)

-- what stands behind the mark
abbrev pub mark_at : List ℕ → Result (List ℕ) ℕ
mark_at bytes = do
  piece ← piece_at (length bytes) 8 bytes
  if pointwise nat_eq piece.0 mark then Ok piece.1 else Err (length bytes)

-- all of the bytes
unfoldable pub side_at : List ℕ → Result (List FileRecord) ℕ
side_at bytes = do
  rest ← mark_at bytes
  count ← number_at 4 rest
  records ← records_at count.0 count.1
  if length records.1 == 0 then Ok records.0 else Err (length records.1)

-- ---- names, in the order of records

-- the name is above the last of the names before it
abbrev pub is_above_last : List (List ℕ) → List ℕ → Bool
is_above_last [] name = true
is_above_last (last ∷ []) name = is_lt (slice_cmp nat_cmp last name)
is_above_last (before ∷ next ∷ names) name = is_above_last (next ∷ names) name

-- a relative name, above the one before it, and under none before it
abbrev pub is_good_name : List (List ℕ) → List ℕ → Bool
is_good_name before name = is_relative_name name && (is_above_last before name && not (holds_folder_of before name))

unfoldable pub bad_name_after : List (List ℕ) → List (List ℕ) → Option (List ℕ)
bad_name_after before [] = None
bad_name_after before (name ∷ names) = if is_good_name before name then bad_name_after (before ++ name ∷ []) names else Some name

-- the first name that is not good
abbrev pub first_bad_name : List (List ℕ) → Option (List ℕ)
first_bad_name names = bad_name_after [] names

-- ---- the whole

abbrev pub with_names : List FileRecord → Option (List ℕ) → Result (List FileRecord) SideError
with_names records None = Ok records
with_names records (Some name) = Err (side.SideNames name)

abbrev pub placed : ℕ → Result (List FileRecord) ℕ → Result (List FileRecord) SideError
placed len (Ok records) = with_names records (first_bad_name (names_of records))
placed len (Err left) = Err (side.SideBad (len - left))

-- The records of side data, or the first fault: of a field, by its first byte, and only then of a name.
unfoldable pub side_read : List ℕ → Result (List FileRecord) SideError
side_read bytes = placed (length bytes) (side_at bytes)

-- what was answered is what reading gives, unless memory ran out
abbrev pub FailsSide : SideError → Result (List FileRecord) SideError → Type 0
FailsSide side.NoMemory read = Unit {0}
FailsSide (side.SideBad place) read = read ≡ Err (side.SideBad place)
FailsSide (side.SideNames name) read = read ≡ Err (side.SideNames name)

abbrev pub GivesSide : Result (Vec FileRecord) SideError → Result (List FileRecord) SideError → Type 0
GivesSide (Ok v) read = read ≡ Ok v.items
GivesSide (Err e) read = FailsSide e read

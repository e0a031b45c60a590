-- The one spelling of each list of records as side data. All numbers are big-endian.
use Rattle.std.specs.Prelude.{◌≡◌, ℕ, ◌+◌, ◌≤◌, ◌<◌, ◌^◌, false, List, [], ◌∷◌, ◌++◌, length, map, sum_by, All, IsUtf8}
use Rattle.std.specs.List.{flat_map, AllAdjacentBelow}
use Rattle.std.specs.Int.{bytes_high_first}
use Rattle.std.specs.Ordering.{nat_cmp}
use Rattle.std.specs.declared.cmp.Ordering.TheVariants.{Less}
use Rattle.std.specs.Cmp.Lexicographic.{slice_cmp}
use Rattle.cook_bits.specs.Names.{IsRelativeName, holds_folder_of}
use Rattle.dpx_packing.specs.PadForms.{IsPadForm}
use Rattle.reversal.specs.declared.record.Kind.{Kind}
use Rattle.reversal.specs.declared.record.Kind.TheVariants.{Other, Frame, Wave}
use Rattle.reversal.specs.declared.record.FileRecord.{FileRecord}

abbrev pub names_of : List FileRecord → List (List ℕ)
names_of records = map (λ r. r.name) records

-- `COOKREV` and the version
abbrev pub mark : List ℕ
mark = 67 ∷ 79 ∷ 79 ∷ 75 ∷ 82 ∷ 69 ∷ 86 ∷ 1 ∷ []

-- the number of a kind
abbrev pub kind_number : Kind → ℕ
kind_number Other = 0
kind_number (Frame track index) = 1
kind_number (Wave track) = 2

-- bytes behind their length in eight bytes
abbrev pub block_bytes : List ℕ → List ℕ
block_bytes bytes = bytes_high_first 8 (length bytes) ++ bytes

-- What a record has of the frame or of the wave: the track in one byte, of a frame its place in the track in four, then the bytes
-- before the samples, of a frame the form of its pads, which tells its own end, and the bytes behind the samples.
abbrev pub parts_bytes : Kind → List ℕ → List ℕ → List ℕ → List ℕ
parts_bytes Other head pads tail = []
parts_bytes (Frame track index) head pads tail = track ∷ (bytes_high_first 4 index ++ block_bytes head ++ pads ++ block_bytes tail)
parts_bytes (Wave track) head pads tail = track ∷ (block_bytes head ++ block_bytes tail)

-- what a record of each kind begins with: the kind, the length of the name in two bytes, the name, the length of the content in eight
-- bytes, and its MD5
abbrev pub common_bytes : FileRecord → List ℕ
common_bytes r = kind_number r.kind ∷ (bytes_high_first 2 (length r.name) ++ r.name ++ bytes_high_first 8 r.length ++ r.md5)

abbrev pub record_bytes : FileRecord → List ℕ
record_bytes r = common_bytes r ++ parts_bytes r.kind r.head r.pads r.tail

-- the mark, the count in four bytes, and the records
unfoldable pub side_data_of : List FileRecord → List ℕ
side_data_of records = mark ++ bytes_high_first 4 (length records) ++ flat_map record_bytes records

-- the length of side data of attached files alone, by their names
unfoldable pub side_data_len : List (List ℕ) → ℕ
side_data_len names = 12 + sum_by (λ name. 27 + length name) names

-- how many bytes a record has of the frame or of the wave
abbrev pub parts_len : Kind → List ℕ → List ℕ → List ℕ → ℕ
parts_len Other head pads tail = 0
parts_len (Frame track index) head pads tail = 21 + (length head + length pads + length tail)
parts_len (Wave track) head pads tail = 17 + (length head + length tail)

-- and so many records
unfoldable pub all_parts_len : List FileRecord → ℕ
all_parts_len records = sum_by (λ r. parts_len r.kind r.head r.pads r.tail) records

-- a track has a number of 1 to 126
pub record IsTrack (track : ℕ) : Type 0 where
  pub low : 1 ≤ track
  pub high : track ≤ 126

-- what a record has by its kind: of an attached file nothing more, of a wave no pads, of a frame one form of pads
pub record HasNone (head pads tail : List ℕ) : Type 0 where
  pub no_head : head ≡ []
  pub no_pads : pads ≡ []
  pub no_tail : tail ≡ []

pub record HasFrame (track index : ℕ) (pads : List ℕ) : Type 0 where
  pub listed : IsTrack track
  pub in_four : index < 2 ^ 32
  pub form : IsPadForm pads

pub record HasWave (track : ℕ) (pads : List ℕ) : Type 0 where
  pub listed : IsTrack track
  pub no_pads : pads ≡ []

abbrev pub HasParts : Kind → List ℕ → List ℕ → List ℕ → Type 0
HasParts Other head pads tail = HasNone head pads tail
HasParts (Frame track index) head pads tail = HasFrame track index pads
HasParts (Wave track) head pads tail = HasWave track pads

-- what a record is: the parts of its kind, and a name whose length is below 2^16
pub record HasShape (r : FileRecord) : Type 0 where
  pub parts : HasParts r.kind r.head r.pads r.tail
  pub in_two : length r.name < 2 ^ 16

-- a record of an attached file
abbrev pub IsOther : FileRecord → Type 0
IsOther r = r.kind ≡ Other

-- which has nothing more
pub record IsPlain (r : FileRecord) : Type 0 where
  pub other : r.kind ≡ Other
  pub no_head : r.head ≡ []
  pub no_pads : r.pads ≡ []
  pub no_tail : r.tail ≡ []
  pub in_two : length r.name < 2 ^ 16

-- an MD5 has sixteen bytes
abbrev pub HasSum : FileRecord → Type 0
HasSum r = length r.md5 ≡ 16

-- what the types of a record's fields say
pub record FitsTypes (r : FileRecord) : Type 0 where
  pub text : IsUtf8 r.name
  pub in_eight : r.length < 2 ^ 64
  pub sixteen : length r.md5 ≡ 16
  pub head_in_eight : length r.head < 2 ^ 64
  pub tail_in_eight : length r.tail < 2 ^ 64

-- relative names, each above the one before, and none a folder of another
pub record AreNames (names : List (List ℕ)) : Type 0 where
  pub relative : All IsRelativeName names
  pub ascending : AllAdjacentBelow (λ name next. slice_cmp nat_cmp name next ≡ Less) names (length names)
  pub apart : All (λ name. holds_folder_of names name ≡ false) names

-- what has a spelling
pub record AreRecords (records : List FileRecord) : Type 0 where
  pub few : length records < 2 ^ 32
  pub shaped : All HasShape records
  pub named : AreNames (names_of records)

-- the bytes are the side data of these records
pub record IsSideDataOf (records : List FileRecord) (bytes : List ℕ) : Type 0 where
  pub are : AreRecords records
  pub typed : All FitsTypes records
  pub is : bytes ≡ side_data_of records

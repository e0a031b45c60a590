-- What any list of bytes means as a package: the files that it gives back, up to the first that is faulty, and its end. A
-- package whose outline or side data is faulty gives no file.
use Rattle.std.specs.Prelude.{ℕ, nat_eq, ◌==◌, Bool, if◌then◌else◌, List, [], ◌∷◌, length, Option, Some, None, Result, Ok, Err}
use Rattle.std.specs.Cmp.Lexicographic.{pointwise}
use Rattle.md5.specs.Md5.{md5}
use Rattle.cook_bits.specs.Names.{File, is_same_name}
use Rattle.reversal.specs.declared.record.FileRecord.{FileRecord}
use Rattle.reversal.specs.declared.error.SideError.{SideError}
use Rattle.reversal.specs.declared.error.SideError.TheVariants as side
use Rattle.matroska_read.specs.Outline.{outline_of}
use Rattle.matroska_read.specs.Places.{Attached, Outline}
use Rattle.matroska_read.specs.declared.error.OutlineFault.{OutlineFault}
use Rattle.matroska_read.specs.declared.error.OutlineFault.TheVariants as outlined
use Rattle.cook_restore.specs.Plain.{plain_read}
use Rattle.cook_restore.specs.declared.error.FileWhy.{FileWhy}
use Rattle.cook_restore.specs.declared.error.FileWhy.TheVariants as file
use Rattle.cook_restore.specs.declared.error.PackageWhy.{PackageWhy}
use Rattle.cook_restore.specs.declared.error.PackageWhy.TheVariants as faults

-- The files that a package gives back, and its end: none where it is whole, and else its first fault.
pub record Meaning : Type 0 where
  pub files : List File
  pub end : Option PackageWhy

-- no file, for a fault
abbrev pub nothing_for : PackageWhy → Meaning
nothing_for why = record { files = []; end = Some why }

-- ---- what is attached

-- the side data: the first file of its media type
unfoldable pub side_seen : List Attached → Option Attached
side_seen [] = None
side_seen (file ∷ files) = if file.side then Some file else side_seen files

-- all files but the side data
unfoldable pub others_seen : List Attached → List Attached
others_seen [] = []
others_seen (file ∷ files) = if file.side then files else file ∷ others_seen files

-- the first file of a name
unfoldable pub seen_as : List ℕ → List Attached → Option Attached
seen_as name [] = None
seen_as name (file ∷ files) = if is_same_name file.name name then Some file else seen_as name files

-- ---- a file, by its record

-- two sums are the same, byte for byte
abbrev pub is_same_sum : List ℕ → List ℕ → Bool
is_same_sum = pointwise nat_eq

-- a content of the length and of the sum (MD5, RFC 1321) that the side data says
unfoldable pub checked : FileRecord → List ℕ → Result (List ℕ) FileWhy
checked said content = if length content == said.length then (if is_same_sum (md5 content) said.md5 then Ok content else Err file.Sum) else Err file.Length

unfoldable pub content_of_file : FileRecord → Option Attached → Result (List ℕ) FileWhy
content_of_file said None = Err file.Missing
content_of_file said (Some attached) = checked said attached.content

-- the content of the file of a record, or why it is faulty
unfoldable pub content_meant : Outline → FileRecord → Result (List ℕ) FileWhy
content_meant outline said = content_of_file said (seen_as said.name (others_seen outline.files))

-- ---- all files

-- a file before others, or the fault at which the files end
unfoldable pub with_file_meant : FileRecord → Result (List ℕ) FileWhy → Meaning → Meaning
with_file_meant said (Ok content) rest = record { files = (said.name, content) ∷ rest.files; end = rest.end }
with_file_meant said (Err why) rest = nothing_for (faults.File said.name why)

-- the files of records in their order, up to the first that is faulty
unfoldable pub files_meant : (FileRecord → Result (List ℕ) FileWhy) → List FileRecord → Meaning
files_meant find [] = record { files = []; end = None }
files_meant find (said ∷ records) = with_file_meant said (find said) (files_meant find records)

-- the fault of side data; a reading of bytes wants no memory
abbrev pub why_of_side : SideError → PackageWhy
why_of_side (side.SideBad place) = faults.SideBad place
why_of_side (side.SideNames name) = faults.SideNames name
why_of_side side.NoMemory = faults.NoSide

-- the fault of an outline
abbrev pub why_of_outline : OutlineFault → PackageWhy
why_of_outline (outlined.Shape place) = faults.Shape place
why_of_outline (outlined.Encoded track) = faults.Encoded track
why_of_outline (outlined.TrackUnknown track) = faults.TrackUnknown track

unfoldable pub records_meant : Outline → Result (List FileRecord) SideError → Meaning
records_meant outline (Ok records) = files_meant (content_meant outline) records
records_meant outline (Err error) = nothing_for (why_of_side error)

unfoldable pub side_meant : Outline → Option Attached → Meaning
side_meant outline None = nothing_for faults.NoSide
side_meant outline (Some side) = records_meant outline (plain_read side.content)

unfoldable pub outline_meant : Result Outline OutlineFault → Meaning
outline_meant (Ok outline) = side_meant outline (side_seen outline.files)
outline_meant (Err fault) = nothing_for (why_of_outline fault)

-- the meaning of a package
unfoldable pub meaning_of : List ℕ → Meaning
meaning_of bytes = outline_meant (outline_of bytes)

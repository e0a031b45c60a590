-- What the giving of one file leaves, by what the file means: a content, or why it is faulty.
use Rattle.std.specs.Prelude.{◌≡◌, ◌⊎◌, ℕ, ◌<◌, ◌≤◌, List, length, take, drop, Option, Some, Result, Ok, Err}
use Rattle.std.specs.Option.{option_map}
use Rattle.md5.specs.Md5.{md5}
use Rattle.cook_bits.specs.Names.{full_name}
use Rattle.shelf_core.specs.Reads.{Tells, Has, Failed, Starved, bytes_of}
use Rattle.shelf_core.specs.Writes.{Grew, GrewInPart, Wrote, Unchanged, WroteInPart, StoppedWriting}
use Rattle.shelf_core.specs.declared.shelf.Shelf.{Ghosts}
use Rattle.shelf_core.specs.declared.pieces.PieceError.{PieceError}
use Rattle.shelf_core.specs.declared.pieces.PieceError.TheVariants as piece
use Rattle.shelf_core.specs.declared.shelf.ShelfError.{ShelfError}
use Rattle.shelf_core.specs.declared.shelf.ShelfError.TheVariants as shelf
use Rattle.shelf_core.specs.declared.shelf.CreateError.{CreateError}
use Rattle.shelf_core.specs.declared.shelf.CreateError.TheVariants as create
use Rattle.reversal.specs.declared.record.FileRecord.{FileRecord}
use Rattle.cook_restore.specs.Contents.{content_found}
use Rattle.cook_restore.specs.Meaning.{content_meant}
use Rattle.matroska_read.specs.Places.{outline_at}
use Rattle.cook_restore.specs.Restoring.{IsFreeIn, HasFileIn, with_given, record_at}
use Rattle.cook_restore.specs.declared.contents.Content.{Content}
use Rattle.cook_restore.specs.declared.giving.Package.{Package}
use Rattle.cook_restore.specs.declared.giving.Task.{Task}
use Rattle.cook_restore.specs.declared.restorer.Restorer.{Restorer}
use Rattle.cook_restore.specs.declared.stop.Stop.{Stop}
use Rattle.cook_restore.specs.declared.stop.Stop.TheVariants as stop
use Rattle.cook_restore.specs.declared.error.FileWhy.{FileWhy}
use Rattle.cook_restore.specs.declared.error.FileError.{FileError}
use Rattle.cook_restore.specs.declared.error.FileError.TheVariants as ungiven

-- an error of a piece of a package of so many bytes, as the cause for which a file is not given
abbrev pub piece_stop : ℕ → PieceError → Stop
piece_stop len (piece.Short now) = stop.Changed len now
piece_stop len piece.Failed = stop.Failed
piece_stop len piece.NoMemory = stop.NoMemory

abbrev pub shelf_stop : ShelfError → Stop
shelf_stop shelf.Failed = stop.Failed
shelf_stop shelf.NoMemory = stop.NoMemory

abbrev pub create_stop : CreateError → Stop
create_stop create.Exists = stop.InTheWay
create_stop create.Failed = stop.Failed
create_stop create.NoMemory = stop.NoMemory

-- the cause for which the file of a number is not given
abbrev pub numbered : ℕ → Stop → FileError
numbered number (stop.File why) = ungiven.File number why
numbered number stop.InTheWay = ungiven.InTheWay number
numbered number (stop.Changed was now) = ungiven.Changed was now
numbered number stop.Failed = ungiven.Failed
numbered number stop.NoMemory = ungiven.NoMemory

-- ---- what is asked of a package

-- One of its files: the package's name and length, the file's relative name, the root under which it is to stand if it is
-- to be written, and, by the package's bytes, its content or why it is faulty.
pub record Asked : Type 0 where
  pub pkg : List ℕ
  pub len : ℕ
  pub name : List ℕ
  pub target : Option (List ℕ)
  pub meant : List ℕ → Result (List ℕ) FileWhy

-- the file of a record whose content stands at a place of the package
abbrev pub asked_there : List ℕ → ℕ → FileRecord → Option Content → Option (List ℕ) → Asked
asked_there pkg len said content target = record { pkg = pkg; len = len; name = said.name; target = target; meant = λ bytes. content_found said bytes content }

abbrev pub asked_of : Package → Task → Asked
asked_of pkg task = asked_there pkg.name.now pkg.len task.said.now task.content (option_map (λ dir. dir.now) task.target)

-- the file of a restorer's record of a number
abbrev pub asked_at : Restorer → ℕ → Asked
asked_at restorer number =
    record { pkg = restorer.pkg; len = restorer.len; name = (record_at restorer number).name; target = restorer.target; meant = λ bytes. content_meant (outline_at restorer.outline bytes) (record_at restorer number) }

-- the file means this, where the shelf tells the package, and it is as long as was asked
abbrev pub Means : {S : Type 0} → Ghosts S → S → Asked → Result (List ℕ) FileWhy → Type 0
Means g shelf asked is = Tells g shelf → asked.len ≡ length (bytes_of g shelf asked.pkg) → asked.meant (bytes_of g shelf asked.pkg) ≡ is

-- ---- a content

-- the bytes of a package at a place
abbrev pub content_on : {S : Type 0} → Ghosts S → S → List ℕ → Content → List ℕ
content_on g shelf pkg found = take found.len (drop found.at (bytes_of g shelf pkg))

-- A content was read whole, and has the length and the sum that its record says.
pub record IsChecked {S : Type 0} (g : Ghosts S) (shelf : S) (pkg : List ℕ) (said : FileRecord) (found : Content) : Type 0 where
  pub len : found.len ≡ said.length
  pub long : Tells g shelf → length (content_on g shelf pkg found) ≡ found.len
  pub sum : Tells g shelf → md5 (content_on g shelf pkg found) ≡ said.md5

-- a content that fits the buffer stands at its front
abbrev pub IsHeld : {S : Type 0} → Ghosts S → S → List ℕ → Content → List ℕ → Type 0
IsHeld g shelf pkg found buffer = found.len ≤ length buffer → Tells g shelf → take found.len buffer ≡ content_on g shelf pkg found

-- why a content was not checked
abbrev pub NotChecked : {S : Type 0} → Ghosts S → S → S → Asked → Stop → Type 0
NotChecked g old new asked (stop.File why) = Means g old asked (Err why)
NotChecked g old new asked stop.InTheWay = ⊥
NotChecked g old new asked (stop.Changed was now) = (now < was) × (Tells g old → asked.len ≡ length (bytes_of g old asked.pkg) → ⊥)
NotChecked g old new asked stop.Failed = Failed g old new
NotChecked g old new asked stop.NoMemory = Starved g old new

-- Why a checked content was not added whole to its file: only where the shelf tells nothing was it another one when it was
-- read again, and only there did it end early.
abbrev pub StopsAdding : {S : Type 0} → Ghosts S → S → S → Stop → Type 0
StopsAdding g old new (stop.File why) = Tells g old → ⊥
StopsAdding g old new stop.InTheWay = ⊥
StopsAdding g old new (stop.Changed was now) = (now < was) × (Tells g old → ⊥)
StopsAdding g old new stop.Failed = Failed g old new
StopsAdding g old new stop.NoMemory = Starved g old new

pub record NotAdded {S : Type 0} (g : Ghosts S) (old new : S) (pkg : List ℕ) (found : Content) (to : List ℕ) (why : Stop) : Type 0 where
  pub part : GrewInPart g old new to (content_on g old pkg found)
  pub cause : StopsAdding g old new why

-- a content of a package was added at the end of a file
abbrev pub AddsContent : {S : Type 0} → Ghosts S → S → S → List ℕ → Content → List ℕ → Type 0
AddsContent g old new pkg found to = Grew g old new to (content_on g old pkg found)

-- a content was written as a new file, and sealed
abbrev pub WritesContent : {S : Type 0} → Ghosts S → S → S → List ℕ → Content → List ℕ → Type 0
WritesContent g old new pkg found to = Wrote g old new to (content_on g old pkg found)

-- Why a checked content was not written, and what stands then. That it was another at the second reading is never so on a
-- shelf that tells its files.
abbrev pub NotWritten : {S : Type 0} → Ghosts S → S → S → List ℕ → Content → List ℕ → Stop → Type 0
NotWritten g old new pkg found to (stop.File why) = (Tells g old → ⊥) × Unchanged g old new
NotWritten g old new pkg found to stop.InTheWay = Has g old to × Unchanged g old new
NotWritten g old new pkg found to (stop.Changed was now) = (now < was) × (Tells g old → ⊥) × Unchanged g old new
NotWritten g old new pkg found to stop.Failed = Failed g old new × StoppedWriting g old new to (content_on g old pkg found)
NotWritten g old new pkg found to stop.NoMemory = Starved g old new × StoppedWriting g old new to (content_on g old pkg found)

-- ---- a file

-- A file was given: it stands in the target with the content that it means.
pub record IsContentGiven {S : Type 0} (g : Ghosts S) (old new : S) (asked : Asked) (len : ℕ) : Type 0 where
  pub bytes : List ℕ
  pub long : Tells g old → len ≡ length bytes
  pub free : IsFreeIn (g.files old) asked.target asked.name
  pub files : g.files new ≡ with_given (g.files old) asked.target asked.name bytes
  pub unsealed : g.unsealed new ≡ g.unsealed old
  pub is : Means g old asked (Ok bytes)

-- its name was there
pub record IsContentInTheWay {S : Type 0} (g : Ghosts S) (old new : S) (asked : Asked) : Type 0 where
  pub there : HasFileIn (g.files old) asked.target asked.name
  pub left : Unchanged g old new
  pub bytes : List ℕ
  pub is : Means g old asked (Ok bytes)

-- it stands in part
pub record IsContentGivenPartly {S : Type 0} (g : Ghosts S) (old new : S) (asked : Asked) : Type 0 where
  pub dir : List ℕ
  pub aimed : asked.target ≡ Some dir
  pub bytes : List ℕ
  pub left : WroteInPart g old new (full_name dir asked.name) bytes
  pub is : Means g old asked (Ok bytes)

abbrev pub LeavesContent : {S : Type 0} → Ghosts S → S → S → Asked → Type 0
LeavesContent g old new asked = Unchanged g old new ⊎ IsContentGivenPartly g old new asked

-- Why a file was not given, and what stands then. Its full name takes memory, so that want of it is free.
abbrev pub NotGiven : {S : Type 0} → Ghosts S → S → S → Asked → Stop → Type 0
NotGiven g old new asked (stop.File why) = Unchanged g old new × Means g old asked (Err why)
NotGiven g old new asked stop.InTheWay = IsContentInTheWay g old new asked
NotGiven g old new asked (stop.Changed was now) = (now < was) × Unchanged g old new × (Tells g old → asked.len ≡ length (bytes_of g old asked.pkg) → ⊥)
NotGiven g old new asked stop.Failed = Failed g old new × LeavesContent g old new asked
NotGiven g old new asked stop.NoMemory = LeavesContent g old new asked

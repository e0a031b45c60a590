-- What an open package is, and what each of its files that is given leaves on the shelf.
use Rattle.std.specs.Prelude.{◌≡◌, ◌⊎◌, ℕ, ◌+◌, ◌<◌, ◌≤◌, false, true, List, [], length, Option, Some, None, Ok}
use Rattle.std.specs.List.{slice_index_or as get_or}
use Rattle.cook_bits.specs.Names.{full_name}
use Rattle.shelf_core.specs.Causes.{Rose}
use Rattle.shelf_core.specs.Reads.{Tells, Failed, bytes_of}
use Rattle.shelf_core.specs.Leaves.{LeavesNothing, LeavesPart}
use Rattle.shelf_core.specs.Told.{Told, IsTold, HasFile, IsFree, Unsealed, content, no_file, with_file}
use Rattle.shelf_core.specs.declared.shelf.Shelf.{Ghosts}
use Rattle.shelf_core.specs.declared.shelf.ShelfError.{ShelfError}
use Rattle.shelf_core.specs.declared.shelf.ShelfError.TheVariants as shelf
use Rattle.shelf_core.specs.declared.pieces.PieceError.{PieceError}
use Rattle.shelf_core.specs.declared.pieces.PieceError.TheVariants as piece
use Rattle.reversal.specs.declared.error.SideError.{SideError}
use Rattle.reversal.specs.declared.error.SideError.TheVariants as side
use Rattle.reversal.specs.SideData.{names_of}
use Rattle.reversal.specs.declared.record.FileRecord.{FileRecord}
use Rattle.reversal.specs.declared.record.Kind.TheVariants.{Other}
use Rattle.cook_restore.specs.Meaning.{Meaning, meaning_of, side_seen, nothing_for}
use Rattle.matroska_read.specs.Outline.{places_of}
use Rattle.matroska_read.specs.Places.{Places, Attached, Outline, bytes_at, outline_at}
use Rattle.matroska_read.specs.declared.files.FileAt.{FileAt}
use Rattle.cook_restore.specs.Plain.{plain_read}
use Rattle.cook_restore.specs.declared.error.FileWhy.{FileWhy}
use Rattle.cook_restore.specs.declared.error.PackageWhy.{PackageWhy}
use Rattle.cook_restore.specs.declared.error.PackageWhy.TheVariants as faults
use Rattle.matroska_read.specs.declared.error.OutlineError.{OutlineError}
use Rattle.matroska_read.specs.declared.error.OutlineError.TheVariants as outlined
use Rattle.cook_restore.specs.declared.error.RestoreError.{RestoreError}
use Rattle.cook_restore.specs.declared.error.RestoreError.TheVariants as unopened
use Rattle.cook_restore.specs.declared.error.FileError.{FileError}
use Rattle.cook_restore.specs.declared.error.FileError.TheVariants as ungiven
use Rattle.cook_restore.specs.declared.restorer.Restorer.{Restorer}
use Rattle.cook_restore.specs.declared.restorer.FileSum.{FileSum}

-- ---- an open package

-- the records of the side data of a package with this outline
pub record AreSideRecords (outline : Outline) (records : List FileRecord) : Type 0 where
  pub side : Attached
  pub is_side : side_seen outline.files ≡ Some side
  pub read : plain_read side.content ≡ Ok records

-- A restorer fits the bytes of a package: its length, its outline and its records are theirs, and none of the files before
-- its next is faulty.
pub record Fits (restorer : Restorer) (bytes : List ℕ) : Type 0 where
  pub len : restorer.len ≡ length bytes
  pub outline : places_of bytes ≡ Ok restorer.outline
  pub records : AreSideRecords (outline_at restorer.outline bytes) restorer.records.items
  pub sound : restorer.number ≤ length (meaning_of bytes).files

-- a restorer before its first file
pub record IsOpened (told : Told) (pkg : List ℕ) (target : Option (List ℕ)) (restorer : Restorer) : Type 0 where
  pub named : restorer.pkg ≡ pkg
  pub aimed : restorer.target ≡ target
  pub first : restorer.number ≡ 0
  pub running : restorer.ended ≡ false
  pub there : HasFile told pkg
  pub fits : IsTold told → Fits restorer (content told pkg)

-- the fault is none of a file
abbrev pub IsBeforeFiles : PackageWhy → Type 0
IsBeforeFiles (faults.File name why) = ⊥
IsBeforeFiles why = Unit {0}

-- the package has this meaning: no file, for a fault
pub record IsRefused (told : Told) (pkg : List ℕ) (why : PackageWhy) : Type 0 where
  pub before : IsBeforeFiles why
  pub there : HasFile told pkg
  pub meant : IsTold told → meaning_of (content told pkg) ≡ nothing_for why

-- Why a package was not opened: it is faulty before its files; or it isn't there; or it gave fewer bytes than it had, which
-- no shelf does that tells its files; or the count of faults rose; or no memory was left.
abbrev pub IsNotOpened : Told → List ℕ → ℕ → ℕ → RestoreError → Type 0
IsNotOpened told pkg faults faults_now (unopened.Package why) = IsRefused told pkg why
IsNotOpened told pkg faults faults_now (unopened.Missing name) = (name ≡ pkg) × IsFree told pkg
IsNotOpened told pkg faults faults_now (unopened.Changed name was now) = (name ≡ pkg) × (IsTold told → ⊥) × (now < was)
IsNotOpened told pkg faults faults_now unopened.Failed = Rose faults faults_now
IsNotOpened told pkg faults faults_now unopened.NoMemory = Unit {0}

-- the same, of a shelf as it was and as it is
abbrev pub StopsOpening : {S : Type 0} → Ghosts S → S → S → List ℕ → RestoreError → Type 0
StopsOpening g old new pkg = IsNotOpened (g.files old) pkg (g.faults old) (g.faults new)

-- a restorer before its first file, by what a shelf tells
abbrev pub OpensOn : {S : Type 0} → Ghosts S → S → List ℕ → Option (List ℕ) → Restorer → Type 0
OpensOn g shelf pkg target = IsOpened (g.files shelf) pkg target

-- the length of a file, where the shelf tells it
abbrev pub IsLenOf : {S : Type 0} → Ghosts S → S → List ℕ → ℕ → Type 0
IsLenOf g shelf name len = Tells g shelf → len ≡ length (bytes_of g shelf name)

-- the outline of a package by places, where the shelf tells it
abbrev pub IsOutlineOf : {S : Type 0} → Ghosts S → S → List ℕ → Places → Type 0
IsOutlineOf g shelf pkg places = Tells g shelf → places_of (bytes_of g shelf pkg) ≡ Ok places

-- the bytes of an attached file
abbrev pub AreBytesOf : {S : Type 0} → Ghosts S → S → List ℕ → FileAt → List ℕ → Type 0
AreBytesOf g shelf pkg file bytes = Tells g shelf → bytes ≡ bytes_at file (bytes_of g shelf pkg)

-- the records of its side data
abbrev pub AreRecordsOf : {S : Type 0} → Ghosts S → S → List ℕ → Places → List FileRecord → Type 0
AreRecordsOf g shelf pkg places records = Tells g shelf → AreSideRecords (outline_at places (bytes_of g shelf pkg)) records

-- a shelf's error as that of an opening
abbrev pub restore_error : ShelfError → RestoreError
restore_error shelf.Failed = unopened.Failed
restore_error shelf.NoMemory = unopened.NoMemory

-- what is answered of a package that isn't there
abbrev pub IsMissing : List ℕ → RestoreError → Type 0
IsMissing pkg (unopened.Missing name) = name ≡ pkg
IsMissing pkg unopened.NoMemory = Unit {0}
IsMissing pkg answer = ⊥

-- what is answered where a piece of a package of so many bytes was not read
abbrev pub NotRead : List ℕ → ℕ → PieceError → RestoreError → Type 0
NotRead pkg len (piece.Short at) (unopened.Changed name was now) = (name ≡ pkg) × (was ≡ len) × (now ≡ at)
NotRead pkg len (piece.Short at) unopened.NoMemory = Unit {0}
NotRead pkg len piece.Failed unopened.Failed = Unit {0}
NotRead pkg len piece.NoMemory unopened.NoMemory = Unit {0}
NotRead pkg len error answer = ⊥

-- or where it has no outline
abbrev pub NotOutlined : List ℕ → ℕ → OutlineError → RestoreError → Type 0
NotOutlined pkg len (outlined.Shape place) (unopened.Package why) = why ≡ faults.Shape place
NotOutlined pkg len (outlined.Encoded track) (unopened.Package why) = why ≡ faults.Encoded track
NotOutlined pkg len (outlined.TrackUnknown track) (unopened.Package why) = why ≡ faults.TrackUnknown track
NotOutlined pkg len (outlined.Short at) answer = NotRead pkg len (piece.Short at) answer
NotOutlined pkg len outlined.Failed unopened.Failed = Unit {0}
NotOutlined pkg len outlined.NoMemory unopened.NoMemory = Unit {0}
NotOutlined pkg len error answer = ⊥

-- or where its side data is faulty
abbrev pub NotRecorded : SideError → RestoreError → Type 0
NotRecorded (side.SideBad place) (unopened.Package why) = why ≡ faults.SideBad place
NotRecorded (side.SideNames name) (unopened.Package why) = why ≡ faults.SideNames name
NotRecorded side.NoMemory unopened.NoMemory = Unit {0}
NotRecorded error answer = ⊥

-- ---- a file that is given

-- a package has the bytes that it had
abbrev pub KeepsBytes : {S : Type 0} → Ghosts S → S → S → List ℕ → Type 0
KeepsBytes g old new pkg = Tells g old → bytes_of g new pkg ≡ bytes_of g old pkg

-- what a restorer keeps whatever it answers
pub record KeepsPackage (before after : Restorer) : Type 0 where
  pub pkg : after.pkg ≡ before.pkg
  pub len : after.len ≡ before.len
  pub outline : after.outline ≡ before.outline
  pub records : after.records.items ≡ before.records.items
  pub target : after.target ≡ before.target

-- the number of a record that is the next
pub record IsNext (before : Restorer) (number : ℕ) : Type 0 where
  pub running : before.ended ≡ false
  pub next : number ≡ before.number
  pub within : before.number < length before.records.items

abbrev pub no_record : FileRecord
no_record = record { name = []; kind = Other; length = 0; md5 = []; head = []; pads = []; tail = [] }

-- the record of a number
abbrev pub record_at : Restorer → ℕ → FileRecord
record_at restorer number = get_or restorer.records.items number no_record

-- the name of the file of a number
abbrev pub name_at : Restorer → ℕ → List ℕ
name_at restorer number = get_or (names_of restorer.records.items) number []

abbrev pub next_name : Restorer → List ℕ
next_name restorer = name_at restorer restorer.number

-- the next file of a meaning has this name and this content
pub record IsMeant (meaning : Meaning) (number : ℕ) (name bytes : List ℕ) : Type 0 where
  pub within : number < length meaning.files
  pub is : get_or meaning.files number no_file ≡ (name, bytes)

-- what the shelf tells of the package is what the restorer fits, and its next file is meant so
abbrev pub IsMeantWhereTold : Told → Restorer → List ℕ → Type 0
IsMeantWhereTold told before bytes = IsTold told → Fits before (content told before.pkg) → IsMeant (meaning_of (content told before.pkg)) before.number (next_name before) bytes

-- the meaning ends before a file, whole or for a fault
pub record IsEnd (meaning : Meaning) (number : ℕ) (last : Option PackageWhy) : Type 0 where
  pub files : length meaning.files ≡ number
  pub end : meaning.end ≡ last

abbrev pub IsEndWhereTold : Told → Restorer → Option PackageWhy → Type 0
IsEndWhereTold told before last = IsTold told → Fits before (content told before.pkg) → IsEnd (meaning_of (content told before.pkg)) before.number last

-- the files with one more in the target, where there is a target
abbrev pub with_given : Told → Option (List ℕ) → List ℕ → List ℕ → Told
with_given told None name bytes = told
with_given told (Some dir) name bytes = with_file told (full_name dir name) bytes

-- no file of the target, where there is one, has the name
abbrev pub IsFreeIn : Told → Option (List ℕ) → List ℕ → Type 0
IsFreeIn told None name = Unit {0}
IsFreeIn told (Some dir) name = IsFree told (full_name dir name)

-- a file of the target has the name
abbrev pub HasFileIn : Told → Option (List ℕ) → List ℕ → Type 0
HasFileIn told None name = ⊥
HasFileIn told (Some dir) name = HasFile told (full_name dir name)

-- The next file was given: it stands in the target, whole and sealed, and the restorer goes on.
pub record IsGiven (told after : Told) (unsealed_before unsealed_after : Unsealed) (before restorer : Restorer) (sum : FileSum) : Type 0 where
  pub next : IsNext before sum.number
  pub one_more : restorer.number ≡ before.number + 1
  pub running : restorer.ended ≡ false
  pub bytes : List ℕ
  pub long : IsTold told → sum.length ≡ length bytes
  pub free : IsFreeIn told before.target (next_name before)
  pub files : after ≡ with_given told before.target (next_name before) bytes
  pub unsealed : unsealed_after ≡ unsealed_before
  pub meant : IsMeantWhereTold told before bytes
  pub fits : IsTold told → Fits before (content told before.pkg) → Fits restorer (content told before.pkg)

-- No file is left, or an earlier call was refused.
pub record IsThrough (told after : Told) (unsealed_before unsealed_after : Unsealed) (before restorer : Restorer) : Type 0 where
  pub why : (before.ended ≡ true) ⊎ (length before.records.items ≤ before.number)
  pub number : restorer.number ≡ before.number
  pub ended : restorer.ended ≡ before.ended
  pub files : after ≡ told
  pub unsealed : unsealed_after ≡ unsealed_before
  pub whole : before.ended ≡ false → IsEndWhereTold told before None

abbrev pub GivesNext : {S : Type 0} → Ghosts S → S → S → Restorer → Restorer → Option FileSum → Type 0
GivesNext g old new before restorer None = IsThrough (g.files old) (g.files new) (g.unsealed old) (g.unsealed new) before restorer
GivesNext g old new before restorer (Some sum) = IsGiven (g.files old) (g.files new) (g.unsealed old) (g.unsealed new) before restorer sum

-- the meaning ends at the next file, and nothing was changed
pub record IsFaulty (told after : Told) (unsealed_before unsealed_after : Unsealed) (before : Restorer) (number : ℕ) (why : FileWhy) : Type 0 where
  pub next : IsNext before number
  pub files : after ≡ told
  pub unsealed : unsealed_after ≡ unsealed_before
  pub ends : IsEndWhereTold told before (Some (faults.File (next_name before) why))

-- the next file is as it is meant, but its name is there in the target, and nothing was changed
pub record IsInTheWay (told after : Told) (unsealed_before unsealed_after : Unsealed) (before : Restorer) (number : ℕ) : Type 0 where
  pub next : IsNext before number
  pub there : HasFileIn told before.target (next_name before)
  pub files : after ≡ told
  pub unsealed : unsealed_after ≡ unsealed_before
  pub bytes : List ℕ
  pub meant : IsMeantWhereTold told before bytes

-- the package gave fewer bytes than it had, which no shelf does that tells the bytes that the restorer fits
pub record IsChanged (told after : Told) (unsealed_before unsealed_after : Unsealed) (before : Restorer) (was now : ℕ) : Type 0 where
  pub fewer : now < was
  pub untold : IsTold told → Fits before (content told before.pkg) → ⊥
  pub files : after ≡ told
  pub unsealed : unsealed_after ≡ unsealed_before

-- the next file stands in the target with a front of its content, unsealed
pub record IsGivenPartly (told after : Told) (unsealed_before unsealed_after : Unsealed) (before : Restorer) : Type 0 where
  pub dir : List ℕ
  pub target : before.target ≡ Some dir
  pub bytes : List ℕ
  pub left : LeavesPart told after unsealed_before unsealed_after (full_name dir (next_name before)) bytes
  pub meant : IsMeantWhereTold told before bytes

abbrev pub LeavesNext : Told → Told → Unsealed → Unsealed → Restorer → Type 0
LeavesNext told after unsealed_before unsealed_after before = LeavesNothing told after unsealed_before unsealed_after ⊎ IsGivenPartly told after unsealed_before unsealed_after before

-- Why a file was not given, and what stands then.
abbrev pub IsNotGiven : {S : Type 0} → Ghosts S → S → S → Restorer → FileError → Type 0
IsNotGiven g old new before (ungiven.File number why) = IsFaulty (g.files old) (g.files new) (g.unsealed old) (g.unsealed new) before number why
IsNotGiven g old new before (ungiven.InTheWay number) = IsInTheWay (g.files old) (g.files new) (g.unsealed old) (g.unsealed new) before number
IsNotGiven g old new before (ungiven.Changed was now) = IsChanged (g.files old) (g.files new) (g.unsealed old) (g.unsealed new) before was now
IsNotGiven g old new before ungiven.Failed = Failed g old new × LeavesNext (g.files old) (g.files new) (g.unsealed old) (g.unsealed new) before
IsNotGiven g old new before ungiven.NoMemory = LeavesNext (g.files old) (g.files new) (g.unsealed old) (g.unsealed new) before

-- after a refusal a restorer has ended before the same file, which was left to be given
pub record IsEnded (before restorer : Restorer) : Type 0 where
  pub running : before.ended ≡ false
  pub within : before.number < length before.records.items
  pub number : restorer.number ≡ before.number
  pub ended : restorer.ended ≡ true

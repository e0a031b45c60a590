-- What the top call promises: the answers of each order and what stands after them, what shows each answer, and what is written.
use Rattle.std.specs.Prelude.{◌≡◌, ◌⊎◌, ℕ, ◌<◌, List, length, Option, Some, None}
use Rattle.shelf_core.specs.Causes.{Rose}
use Rattle.shelf_core.specs.Reads.{Tells}
use Rattle.shelf_core.specs.Told.{Told, IsTold, HasFile, IsFree, Unsealed, under, with_file}
use Rattle.shelf_core.specs.Report.{Text, with_text, WrittenPartly}
use Rattle.shelf_core.specs.declared.shelf.Shelf.{Ghosts}
use Rattle.shelf_core.specs.declared.sink.Sink.{Ghosts as SinkGhosts}
use Rattle.cook_pack.specs.Offence.{IsInProfile, offence_of_directory}
use Rattle.cook_pack.specs.Package.{IsLeaving, package_of}
use Rattle.cook_pack.specs.Planned.{IsOffence, directory_of}
use Rattle.cook_pack.specs.declared.error.RefuseWhy.{RefuseWhy}
use Rattle.cook_restore.specs.Meaning.{meaning_of}
use Rattle.cook_top.specs.Orders.{Order}
use Rattle.cook_top.specs.Orders.Order.{Pack, Restore}
use Rattle.cook_top.specs.RestoreLaw.{RestoreLaw, RestoreFirst, meant, total_length}
use Rattle.cook_top.specs.Texts.{line_of, pack_line, restore_line}
use Rattle.cook_top.specs.declared.status.Status.{Status}
use Rattle.cook_top.specs.declared.status.Status.TheVariants.{Done, Usage, Refused, PackageRefused, InTheWay, ShelfFault, NoMemory, ReportFault, Changed, Missing}

-- ---- the pack law

-- the directory is one that pack takes, where the shelf tells it
abbrev pub FitsProfile : {S : Type 0} → Ghosts S → S → List ℕ → Type 0
FitsProfile g shelf dir = Tells g shelf → IsInProfile (directory_of g shelf dir)

-- The directory has this offence, where the shelf tells it, and the files are as before.
pub record IsRefused {S : Type 0} (g : Ghosts S) (old new : S) (dir name : List ℕ) (why : RefuseWhy) : Type 0 where
  pub offence : Tells g old → IsOffence (directory_of g old dir) name why
  pub files : g.files new ≡ g.files old

-- The directory is in the profile, the package's name is there, and the files are as before.
pub record IsInTheWay {S : Type 0} (g : Ghosts S) (old new : S) (dir pkg name : List ℕ) : Type 0 where
  pub profile : FitsProfile g old dir
  pub named : name ≡ pkg
  pub there : HasFile (g.files old) pkg
  pub files : g.files new ≡ g.files old

-- The directory is in the profile, the package's name was free, and now has the one defined package, which means the
-- directory: restoring it gives the directory back.
pub record IsPacked {S : Type 0} (g : Ghosts S) (old new : S) (rate : ℕ) (dir pkg : List ℕ) : Type 0 where
  pub profile : FitsProfile g old dir
  pub free : IsFree (g.files old) pkg
  pub files : g.files new ≡ with_file (g.files old) pkg (package_of (directory_of g old dir) rate)
  pub means : Tells g old → meaning_of (package_of (directory_of g old dir) rate) ≡ record { files = directory_of g old dir; end = None }

-- The directory is in the profile, the package's name was free, and now has what a stopped pack leaves.
pub record IsPackedPartly {S : Type 0} (g : Ghosts S) (old new : S) (rate : ℕ) (dir pkg : List ℕ) : Type 0 where
  pub profile : FitsProfile g old dir
  pub free : IsFree (g.files old) pkg
  pub bytes : List ℕ
  pub leaving : IsLeaving (directory_of g old dir) rate bytes
  pub files : g.files new ≡ with_file (g.files old) pkg bytes

-- the files are as before, or the package stands in part
abbrev pub IsStopped : {S : Type 0} → Ghosts S → S → S → ℕ → List ℕ → List ℕ → Type 0
IsStopped g old new rate dir pkg = (g.files new ≡ g.files old) ⊎ IsPackedPartly g old new rate dir pkg

-- the answers of pack at a rate of frames a second, and what stands after each
abbrev pub PackLaw : {S : Type 0} → Ghosts S → S → S → ℕ → List ℕ → List ℕ → Status → Type 0
PackLaw g old new rate dir pkg Done = IsPacked g old new rate dir pkg
PackLaw g old new rate dir pkg ReportFault = IsPacked g old new rate dir pkg
PackLaw g old new rate dir pkg (Refused name why) = IsRefused g old new dir name why
PackLaw g old new rate dir pkg (InTheWay name) = IsInTheWay g old new dir pkg name
PackLaw g old new rate dir pkg ShelfFault = IsStopped g old new rate dir pkg
PackLaw g old new rate dir pkg NoMemory = IsStopped g old new rate dir pkg
PackLaw g old new rate dir pkg (Changed name was now) = Tells g old → ⊥
PackLaw g old new rate dir pkg (Missing name) = Tells g old → ⊥
PackLaw g old new rate dir pkg (PackageRefused why) = ⊥
PackLaw g old new rate dir pkg Usage = ⊥

-- the answers of an order; without one the files are as before
abbrev pub ObeysOrder : {S : Type 0} → Ghosts S → S → S → Option Order → Status → Type 0
ObeysOrder g old new None status = g.files new ≡ g.files old
ObeysOrder g old new (Some (Pack workers rate dir pkg)) status = PackLaw g old new rate dir pkg status
ObeysOrder g old new (Some (Restore workers pkg dir)) status = RestoreLaw (g.files old) (g.files new) pkg dir status

-- what was written is sealed, but after a fault, want of memory or a file that changed
abbrev pub KeepsUnsealed : Unsealed → Unsealed → Status → Type 0
KeepsUnsealed unsealed_before after ShelfFault = Unit {0}
KeepsUnsealed unsealed_before after NoMemory = Unit {0}
KeepsUnsealed unsealed_before after (Changed name was now) = Unit {0}
KeepsUnsealed unsealed_before after status = after ≡ unsealed_before

-- over the shelf
abbrev pub KeepsSealed : {S : Type 0} → Ghosts S → S → S → Status → Type 0
KeepsSealed g old new status = KeepsUnsealed (g.unsealed old) (g.unsealed new) status

-- ---- the cause law

-- a file that isn't there: restore may find its package so, and pack only a file that a shelf lists and has not
abbrev pub MayMiss : Option Order → Told → Type 0
MayMiss (Some (Restore workers pkg dir)) told = Unit {0}
MayMiss order told = IsTold told → ⊥

-- what shows an answer of an order, for every shelf: a count that rose, or lengths of a file
abbrev pub IsShown : Option Order → Told → ℕ → ℕ → ℕ → ℕ → Status → Type 0
IsShown order told faults faults_now sink sink_now ShelfFault = Rose faults faults_now
IsShown order told faults faults_now sink sink_now ReportFault = Rose sink sink_now
IsShown order told faults faults_now sink sink_now (Changed name was now) = (IsTold told → ⊥) × (now < was)
IsShown order told faults faults_now sink sink_now (Missing name) = MayMiss order told
IsShown order told faults faults_now sink sink_now status = Unit {0}

-- over the shelf
abbrev pub ShowsFor : {S : Type 0} → Ghosts S → Option Order → S → S → ℕ → ℕ → Status → Type 0
ShowsFor g order old new sink sink_now status = IsShown order (g.files old) (g.faults old) (g.faults new) sink sink_now status

-- over the shelf and the sink
abbrev pub Shows : {S O : Type 0} → Ghosts S → SinkGhosts O → Option Order → S → S → O → O → Status → Type 0
Shows g h order old new out out_now status = ShowsFor g order old new (h.faults out) (h.faults out_now) status

-- ---- the completeness law

-- no count of faults of a shelf rose
abbrev pub NeverFailed : {S : Type 0} → Ghosts S → S → S → Type 0
NeverFailed g old new = Rose (g.faults old) (g.faults new) → ⊥

-- nor one of a sink
abbrev pub NeverRefused : {O : Type 0} → SinkGhosts O → O → O → Type 0
NeverRefused h out out_now = Rose (h.faults out) (h.faults out_now) → ⊥

-- the one answer of each case of pack, or want of memory
abbrev pub IsFirstAnswer : {S : Type 0} → Ghosts S → S → List ℕ → List ℕ → Status → Type 0
IsFirstAnswer g old dir pkg (Refused name why) = offence_of_directory (directory_of g old dir) ≡ Some (name, why)
IsFirstAnswer g old dir pkg (InTheWay name) = IsInProfile (directory_of g old dir) × HasFile (g.files old) pkg × (name ≡ pkg)
IsFirstAnswer g old dir pkg Done = IsInProfile (directory_of g old dir) × IsFree (g.files old) pkg
IsFirstAnswer g old dir pkg NoMemory = Unit {0}
IsFirstAnswer g old dir pkg status = ⊥

abbrev pub AnswersFirst : {S : Type 0} → Ghosts S → S → Option Order → Status → Type 0
AnswersFirst g old None status = Unit {0}
AnswersFirst g old (Some (Pack workers rate dir pkg)) status = IsFirstAnswer g old dir pkg status
AnswersFirst g old (Some (Restore workers pkg dir)) status = RestoreFirst (g.files old) pkg dir status

-- the answer of an order is the one of its case, where the shelf tells its files and no count of faults rose
abbrev pub IsComplete : {S O : Type 0} → Ghosts S → SinkGhosts O → Option Order → S → S → O → O → Status → Type 0
IsComplete g h order old new out out_now status = Tells g old → NeverFailed g old new → NeverRefused h out out_now → AnswersFirst g old order status

-- ---- the report law

-- the report of an order that was done, where the shelf tells its files
unfoldable pub report_of : Option Order → Told → Option (List ℕ)
report_of None told = None
report_of (Some (Pack workers rate dir pkg)) None = None
report_of (Some (Pack workers rate dir pkg)) (Some files) = Some (pack_line (length (under (Some files) dir)) 0 0 (length (package_of (under (Some files) dir) rate)))
report_of (Some (Restore workers pkg dir)) None = None
report_of (Some (Restore workers pkg dir)) (Some files) = Some (restore_line (length (meant (Some files) pkg).files) (total_length (meant (Some files) pkg).files))

-- the text that belongs to a status
abbrev pub text_of : Option Order → Told → Status → Option (List ℕ)
text_of order told Done = report_of order told
text_of order told ReportFault = report_of order told
text_of order told status = Some (line_of status)

-- A front of the text was written; all of it where no write failed, and wherever the status is Done.
pub record IsWritten (before after : Text) (sink sink_now : ℕ) (status : Status) (text : List ℕ) : Type 0 where
  pub front : WrittenPartly before text after
  pub whole : (Rose sink sink_now → ⊥) → after ≡ with_text before text
  pub done : status ≡ Done → after ≡ with_text before text

abbrev pub Reports : Text → Text → ℕ → ℕ → Status → Option (List ℕ) → Type 0
Reports before after sink sink_now status None = Unit {0}
Reports before after sink sink_now status (Some text) = IsWritten before after sink sink_now status text

-- over the sink
abbrev pub Writes : {O : Type 0} → SinkGhosts O → O → O → Status → List ℕ → Type 0
Writes h out out_now status text = IsWritten (h.written out) (h.written out_now) (h.faults out) (h.faults out_now) status text

-- the text of an order's status is written
abbrev pub ReportsOrder : {S O : Type 0} → Ghosts S → SinkGhosts O → Option Order → S → O → O → Status → Type 0
ReportsOrder g h order old out out_now status = Reports (h.written out) (h.written out_now) (h.faults out) (h.faults out_now) status (text_of order (g.files old) status)

-- the work is done, and the report was written, or a fault of the sink kept it
abbrev pub IsDoneOr : Type 0 → Status → Type 0
IsDoneOr fault Done = Unit {0}
IsDoneOr fault ReportFault = fault
IsDoneOr fault status = ⊥

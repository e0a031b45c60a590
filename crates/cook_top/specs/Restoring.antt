-- The steps of an order to restore: the target's first entry, the status of a file that was not given, and the sum of those
-- that were.
use Rattle.std.specs.Prelude.{◌≡◌, ℕ, ◌<◌, Bool, List, [], length, Option, Some, None}
use Rattle.std.specs.List.{slice_index_or as get_or, IsFirstBest}
use Rattle.std.specs.Ordering.{nat_cmp, is_lt}
use Rattle.std.specs.Cmp.Lexicographic.{slice_cmp}
use Rattle.cook_bits.specs.Names.{File}
use Rattle.shelf_core.specs.Causes.{Rose}
use Rattle.shelf_core.specs.Reads.{Tells}
use Rattle.shelf_core.specs.Told.{Told, IsTold, under}
use Rattle.shelf_core.specs.declared.shelf.Shelf.{Ghosts}
use Rattle.shelf_core.specs.declared.shelf.Entry.{Entry}
use Rattle.cook_restore.specs.Restoring.{name_at}
use Rattle.cook_restore.specs.declared.restorer.Restorer.{Restorer}
use Rattle.cook_restore.specs.declared.error.FileError.{FileError}
use Rattle.cook_restore.specs.declared.error.FileError.TheVariants as ungiven
use Rattle.cook_restore.specs.declared.error.PackageWhy.{PackageWhy}
use Rattle.cook_restore.specs.declared.error.PackageWhy.TheVariants as faults
use Rattle.cook_top.specs.RestoreLaw.{RestoreLaw, IsRestored, IsFirstUnder, meant, total_length}
use Rattle.cook_top.specs.declared.restore.RestoreSum.{RestoreSum}
use Rattle.cook_top.specs.declared.status.Status.{Status}
use Rattle.cook_top.specs.declared.status.Status.TheVariants.{Done, PackageRefused, InTheWay, ShelfFault, NoMemory, ReportFault, Changed}

-- ---- the target

-- the name of an entry is below that of another
abbrev pub is_below : Entry → Entry → Bool
is_below entry other = is_lt (slice_cmp nat_cmp entry.name other.name)

-- the place of the first entry in byte order of names
abbrev pub IsFirstPlace : List Entry → ℕ → Type 0
IsFirstPlace entries place = IsFirstBest is_below entries (length entries) place

-- an entry has the name, and no other stands before it in byte order of names
pub record IsFirstName (entries : List Entry) (name : List ℕ) : Type 0 where
  pub place : ℕ
  pub first : IsFirstPlace entries place
  pub named : (d : Entry) → name ≡ (get_or entries place d).name

-- the first name among entries, where there is one
abbrev pub FirstName : List Entry → Option (List ℕ) → Type 0
FirstName entries None = entries ≡ []
FirstName entries (Some name) = IsFirstName entries name

-- Why there is no empty target: a file stands in it; or the count of faults rose; or no memory was left.
abbrev pub IsNoTarget : Told → List ℕ → ℕ → ℕ → Status → Type 0
IsNoTarget told dir faults faults_now (InTheWay name) = IsTold told → IsFirstUnder told dir name
IsNoTarget told dir faults faults_now ShelfFault = Rose faults faults_now
IsNoTarget told dir faults faults_now NoMemory = Unit {0}
IsNoTarget told dir faults faults_now status = ⊥

-- the work is not done
abbrev pub IsUndone : Status → Type 0
IsUndone Done = ⊥
IsUndone ReportFault = ⊥
IsUndone status = Unit {0}

-- ---- the files

-- the file of an error has a record
abbrev pub IsNumbered : Restorer → FileError → Type 0
IsNumbered restorer (ungiven.File number why) = number < length restorer.records.items
IsNumbered restorer (ungiven.InTheWay number) = number < length restorer.records.items
IsNumbered restorer error = Unit {0}

-- the status that shows why a file was not given: it has the file's name or the package's, for which memory may be wanting
abbrev pub IsStatusOf : Restorer → List ℕ → FileError → Status → Type 0
IsStatusOf restorer pkg (ungiven.File number why) (PackageRefused fault) = fault ≡ faults.File (name_at restorer number) why
IsStatusOf restorer pkg (ungiven.InTheWay number) (InTheWay name) = name ≡ name_at restorer number
IsStatusOf restorer pkg (ungiven.Changed was now) (Changed name had has) = (name ≡ pkg) × (had ≡ was) × (has ≡ now)
IsStatusOf restorer pkg (ungiven.Changed was now) NoMemory = Unit {0}
IsStatusOf restorer pkg ungiven.Failed ShelfFault = Unit {0}
IsStatusOf restorer pkg ungiven.NoMemory NoMemory = Unit {0}
IsStatusOf restorer pkg error status = ⊥

-- a sum counts files and their bytes
pub record IsSumOf (given : List File) (sum : RestoreSum) : Type 0 where
  pub files : sum.files ≡ length given
  pub bytes : sum.bytes ≡ total_length given

-- ---- the same over the shelf as it was and as it is

-- no file stands under a root
abbrev pub IsEmptyRoot : {S : Type 0} → Ghosts S → S → List ℕ → Type 0
IsEmptyRoot g shelf dir = under (g.files shelf) dir ≡ []

-- there is no empty target
abbrev pub LacksTarget : {S : Type 0} → Ghosts S → S → S → List ℕ → Status → Type 0
LacksTarget g old new dir status = IsNoTarget (g.files old) dir (g.faults old) (g.faults new) status

-- the target has the files that the package means, which ends so
abbrev pub Restored : {S : Type 0} → Ghosts S → S → S → List ℕ → List ℕ → Option PackageWhy → Type 0
Restored g old new pkg dir last = IsRestored (g.files old) (g.files new) pkg dir last

-- the sum is that of the files that the package means
abbrev pub CountsFiles : {S : Type 0} → Ghosts S → S → List ℕ → RestoreSum → Type 0
CountsFiles g shelf pkg sum = Tells g shelf → IsSumOf (meant (g.files shelf) pkg).files sum

-- what stands after a status
abbrev pub StopsRestoring : {S : Type 0} → Ghosts S → S → S → List ℕ → List ℕ → Status → Type 0
StopsRestoring g old new pkg dir status = RestoreLaw (g.files old) (g.files new) pkg dir status

-- each file that was written is sealed
abbrev pub SealsAll : {S : Type 0} → Ghosts S → S → S → Type 0
SealsAll g old new = g.unsealed new ≡ g.unsealed old

-- What a plan keeps: the root, and a record of each file. What the planning of a directory answers.
use Rattle.std.specs.Prelude.{◌≡◌, ℕ, ◌^◌, ◌≤◌, List, [], length, map, sum, All, Contains, Some, IsUtf8}
use Rattle.std.specs.Ordering.{nat_cmp}
use Rattle.std.specs.declared.cmp.Ordering.TheVariants.{Less}
use Rattle.std.specs.Cmp.Lexicographic.{slice_cmp}
use Rattle.cook_bits.specs.Names.{File, IsRelativeName}
use Rattle.shelf_core.specs.Causes.{Rose}
use Rattle.shelf_core.specs.Reads.{Tells}
use Rattle.shelf_core.specs.Told.{Told, under}
use Rattle.shelf_core.specs.declared.shelf.Shelf.{Ghosts}
use Rattle.reversal.specs.SideData.{AreNames}
use Rattle.cook_pack.specs.Offence.{IsInProfile, IsOfPlainFile, offence_of_directory}
use Rattle.cook_pack.specs.declared.error.PackError.{PackError}
use Rattle.cook_pack.specs.declared.error.PackError.TheVariants.{Refused, InTheWay, Changed, Missing, Failed, NoMemory}
use Rattle.cook_pack.specs.declared.error.RefuseWhy.{RefuseWhy}
use Rattle.cook_pack.specs.declared.planned_file.PlannedFile.{PlannedFile}
use Rattle.cook_pack.specs.declared.planned_file.PlannedKind.TheVariants.{Other}

pub record Planned : Type 0 where
  pub root : List ℕ
  pub files : List PlannedFile

abbrev pub names_planned : List PlannedFile → List (List ℕ)
names_planned files = map (λ (file : PlannedFile). file.name) files

abbrev pub lengths_planned : List PlannedFile → List ℕ
lengths_planned files = map (λ (file : PlannedFile). file.length) files

-- what is read of planned files past their end
abbrev pub no_planned_file : PlannedFile
no_planned_file = record { name = []; length = 0; kind = Other }

-- what a plan keeps of a file
abbrev pub planned_file : File → PlannedFile
planned_file file = record { name = file.0; length = length file.1; kind = Other }

-- a plan has a file of that name and length
pub record IsInPlan (plan : Planned) (name : List ℕ) (len : ℕ) : Type 0 where
  pub file : PlannedFile
  pub listed : Contains plan.files file
  pub named : name ≡ file.name
  pub long : len ≡ file.length

-- a name stands before another in byte order
abbrev pub IsBefore : List ℕ → List ℕ → Type 0
IsBefore name other = slice_cmp nat_cmp name other ≡ Less

-- What holds of a plan from any shelf: at most 1,000,000 files. Their names are texts in UTF-8 and relative, each before the
-- next in byte order and none under another, and their lengths add up to at most 2^50 bytes.
pub record IsSound (plan : Planned) : Type 0 where
  pub few : length plan.files ≤ 1000000
  pub texts : All IsUtf8 (names_planned plan.files)
  pub named : AreNames (names_planned plan.files)
  pub small : sum (lengths_planned plan.files) ≤ 2 ^ 50

-- The plan is that of the files under its root, which are in the profile.
pub record Fits (told : Told) (plan : Planned) : Type 0 where
  pub in_profile : IsInProfile (under told plan.root)
  pub files : plan.files ≡ map planned_file (under told plan.root)

-- where the shelf tells its files
abbrev pub FitsShelf : {S : Type 0} → Ghosts S → S → Planned → Type 0
FitsShelf g shelf plan = Tells g shelf → Fits (g.files shelf) plan

-- the files that stand under a root, by their relative names, in byte order
abbrev pub directory_of : {S : Type 0} → Ghosts S → S → List ℕ → List File
directory_of g shelf root = under (g.files shelf) root

-- the plan of what stands under a root
pub record IsPlanOf {S : Type 0} (g : Ghosts S) (shelf : S) (root : List ℕ) (plan : Planned) : Type 0 where
  pub at_root : plan.root ≡ root
  pub sound : IsSound plan
  pub fits : FitsShelf g shelf plan

-- the first offence of a directory, by a plain file that is listed once
pub record IsOffence (directory : List File) (name : List ℕ) (why : RefuseWhy) : Type 0 where
  pub first : offence_of_directory directory ≡ Some (name, why)
  pub plain : IsOfPlainFile why

-- A file isn't there whose name was listed and is relative. No shelf misses one that tells its files.
pub record IsMissing {S : Type 0} (g : Ghosts S) (shelf : S) (name : List ℕ) : Type 0 where
  pub untold : Tells g shelf → ⊥
  pub relative : IsRelativeName name

-- Why a directory is not planned: where the shelf tells its files, for the directory's offence; for a listed file that
-- isn't there; or the count of faults rose; or no memory was left.
abbrev pub IsNotPlanned : {S : Type 0} → Ghosts S → S → S → List ℕ → PackError → Type 0
IsNotPlanned g old new root (Refused name why) = Tells g old → IsOffence (directory_of g old root) name why
IsNotPlanned g old new root (Missing name) = IsMissing g old name
IsNotPlanned g old new root Failed = Rose (g.faults old) (g.faults new)
IsNotPlanned g old new root NoMemory = Unit {0}
IsNotPlanned g old new root (InTheWay name) = ⊥
IsNotPlanned g old new root (Changed name was now) = ⊥

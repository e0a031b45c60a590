-- Entries of a listing as the plan reads them.
use Rattle.std.specs.Prelude.{◌≡◌, ℕ, true, List, [], map, take, slice_index_or, Option, Some, None, Contains, IsUtf8}
use Rattle.std.specs.Option.{option_or}
use Rattle.std.specs.List.Sorted.{IsSortedByKey}
use Rattle.std.specs.Ordering.{nat_cmp}
use Rattle.std.specs.Cmp.Lexicographic.{slice_cmp}
use Rattle.cook_bits.specs.Names.{full_name}
use Rattle.shelf_core.specs.Causes.{Rose}
use Rattle.shelf_core.specs.Listing.{plain_entries}
use Rattle.shelf_core.specs.Reads.{Tells}
use Rattle.shelf_core.specs.Told.{length_of}
use Rattle.shelf_core.specs.declared.shelf.Shelf.{Ghosts}
use Rattle.shelf_core.specs.declared.shelf.Entry.{Entry}
use Rattle.cook_pack.specs.Offence.{first_offence, broken_by_listing, broken_by_file}
use Rattle.cook_pack.specs.declared.error.RefuseWhy.{RefuseWhy}
use Rattle.cook_pack.specs.declared.error.PackError.{PackError}
use Rattle.cook_pack.specs.declared.error.PackError.TheVariants.{Refused, InTheWay, Changed, Missing, Failed, NoMemory}
use Rattle.cook_pack.specs.declared.planned_file.PlannedFile.{PlannedFile}
use Rattle.cook_pack.specs.declared.planned_file.PlannedKind.TheVariants.{Other}
use Rattle.cook_pack.specs.Planned.{Planned, directory_of}

abbrev pub name_of : Entry → List ℕ
name_of entry = entry.name

abbrev pub entry_names : List Entry → List (List ℕ)
entry_names entries = map name_of entries

-- in byte order of names, where one may stand more than once
abbrev pub AreInOrder : List Entry → Type 0
AreInOrder entries = IsSortedByKey name_of (slice_cmp nat_cmp) entries

abbrev pub entry_at : List Entry → ℕ → Entry
entry_at entries index = slice_index_or entries index (record { name = []; plain = true })

-- the first rule that the entry at a place breaks by the listing
unfoldable pub fault_by_listing : List Entry → ℕ → Option RefuseWhy
fault_by_listing entries index =
    first_offence (broken_by_listing (entry_names entries) (take index (entry_names entries)) (entry_at entries index).name (entry_at entries index).plain)

-- the first rule that a file breaks by its bytes
unfoldable pub fault_by_file : ℕ → List ℕ → ℕ → Option RefuseWhy
fault_by_file total name len = first_offence (broken_by_file total name len)

-- the entries of a listing are the files under a root, where the shelf tells them
abbrev pub Lists : {S : Type 0} → Ghosts S → S → List ℕ → List Entry → Type 0
Lists g shelf root entries = Tells g shelf → entries ≡ plain_entries (directory_of g shelf root)

-- What is planned of the entry at a place, where files of so many bytes stand before it: it breaks no rule, and is as long
-- as the shelf tells.
pub record Admits {S : Type 0} (g : Ghosts S) (shelf : S) (root : List ℕ) (entries : List Entry) (index total : ℕ) (file : PlannedFile) : Type 0 where
  pub named : file.name ≡ (entry_at entries index).name
  pub text : IsUtf8 file.name
  pub kept : file.kind ≡ Other
  pub listed : fault_by_listing entries index ≡ None
  pub filed : fault_by_file total file.name file.length ≡ None
  pub measured : Tells g shelf → length_of (g.files shelf) (full_name root file.name) ≡ Some file.length

-- the first rule that the entry at a place breaks, where the shelf tells how long its file is
pub record Bars {S : Type 0} (g : Ghosts S) (shelf : S) (root : List ℕ) (entries : List Entry) (index total : ℕ) (name : List ℕ) (why : RefuseWhy) : Type 0 where
  pub named : name ≡ (entry_at entries index).name
  pub broken : Tells g shelf → (len : ℕ) → length_of (g.files shelf) (full_name root name) ≡ Some len
      → option_or (fault_by_listing entries index) (fault_by_file total name len) ≡ Some why

-- the entry at a place breaks no rule by the listing, and has no file where the shelf tells its files
pub record Lacks {S : Type 0} (g : Ghosts S) (shelf : S) (root : List ℕ) (entries : List Entry) (index : ℕ) (name : List ℕ) : Type 0 where
  pub named : name ≡ (entry_at entries index).name
  pub listed : fault_by_listing entries index ≡ None
  pub none : Tells g shelf → length_of (g.files shelf) (full_name root name) ≡ None

-- Why an entry is not planned, where files of so many bytes stand before it: for the first rule that it breaks, or for its
-- file that isn't there; or the count of faults rose; or no memory was left.
abbrev pub IsBarred : {S : Type 0} → Ghosts S → S → S → List ℕ → List Entry → ℕ → ℕ → PackError → Type 0
IsBarred g old new root entries index total (Refused name why) = Bars g old root entries index total name why
IsBarred g old new root entries index total (Missing name) = Lacks g old root entries index name
IsBarred g old new root entries index total Failed = Rose (g.faults old) (g.faults new)
IsBarred g old new root entries index total NoMemory = Unit {0}
IsBarred g old new root entries index total (InTheWay name) = ⊥
IsBarred g old new root entries index total (Changed name was now) = ⊥

-- a file that isn't there has the name of an entry
abbrev pub NamesEntry : List Entry → PackError → Type 0
NamesEntry entries (Missing name) = Contains (entry_names entries) name
NamesEntry entries error = Unit {0}

-- the refusal of a file by its name, or want of memory for the name
abbrev pub Refuses : List ℕ → RefuseWhy → PackError → Type 0
Refuses name why (Refused other reason) = (other ≡ name) × (reason ≡ why)
Refuses name why NoMemory = Unit {0}
Refuses name why (InTheWay other) = ⊥
Refuses name why (Changed other was now) = ⊥
Refuses name why (Missing other) = ⊥
Refuses name why Failed = ⊥

-- that a file isn't there, by its name, or want of memory for the name
abbrev pub Misses : List ℕ → PackError → Type 0
Misses name (Missing other) = other ≡ name
Misses name NoMemory = Unit {0}
Misses name (Refused other why) = ⊥
Misses name (InTheWay other) = ⊥
Misses name (Changed other was now) = ⊥
Misses name Failed = ⊥

-- the plan of these files
abbrev pub planned : List ℕ → List PlannedFile → Planned
planned root files = record { root = root; files = files }

-- What an order to restore promises: the answers, and what stands in the target after each.
use Rattle.std.specs.Prelude.{◌≡◌, ◌⊎◌, ℕ, ◌<◌, ◌≤◌, List, [], ◌∷◌, length, take, sum_by, Option, Some, None}
use Rattle.std.specs.List.{slice_index_or as get_or}
use Rattle.cook_bits.specs.Names.{File, full_name}
use Rattle.shelf_core.specs.Told.{Told, IsTold, HasFile, IsFree, content, no_file, under, with_file, with_files}
use Rattle.cook_restore.specs.Meaning.{Meaning, meaning_of}
use Rattle.cook_restore.specs.declared.error.PackageWhy.{PackageWhy}
use Rattle.cook_top.specs.declared.status.Status.{Status}
use Rattle.cook_top.specs.declared.status.Status.TheVariants.{Done, Usage, Refused, PackageRefused, InTheWay, ShelfFault, NoMemory, ReportFault, Changed, Missing}

-- what a package means
abbrev pub meant : Told → List ℕ → Meaning
meant told pkg = meaning_of (content told pkg)

-- the bytes of files, added up
unfoldable pub total_length : List File → ℕ
total_length files = sum_by (λ (file : File). length file.1) files

-- The target was empty, and now has the files that the package means, which ends so.
pub record IsRestored (told after : Told) (pkg dir : List ℕ) (last : Option PackageWhy) : Type 0 where
  pub empty : under told dir ≡ []
  pub there : HasFile told pkg
  pub ends : IsTold told → (meant told pkg).end ≡ last
  pub files : after ≡ with_files told dir (meant told pkg).files

-- the first file under a root has this name
pub record IsFirstUnder (told : Told) (dir name : List ℕ) : Type 0 where
  pub file : File
  pub rest : List File
  pub is : under told dir ≡ file ∷ rest
  pub named : name ≡ file.0

-- The target's first file has this name, where the shelf tells it, and the files are as before.
pub record IsOccupied (told after : Told) (dir name : List ℕ) : Type 0 where
  pub first : IsTold told → IsFirstUnder told dir name
  pub files : after ≡ told

-- The target was empty, the package's name was free, and the files are as before.
pub record IsNoPackage (told after : Told) (pkg dir name : List ℕ) : Type 0 where
  pub empty : under told dir ≡ []
  pub free : IsFree told pkg
  pub named : name ≡ pkg
  pub files : after ≡ told

-- the first files stand under a root, and the next with a front of its content
pub record IsCut (told after : Told) (dir : List ℕ) (given : List File) (count : ℕ) : Type 0 where
  pub more : count < length given
  pub front : ℕ
  pub short : front ≤ length (get_or given count no_file).1
  pub files : after ≡ with_file (with_files told dir (take count given)) (full_name dir (get_or given count no_file).0) (take front (get_or given count no_file).1)

-- The target was empty, and now has the first of the files that the package means; or these, and the next with a front of
-- its content.
pub record IsRestoredPartly (told after : Told) (pkg dir : List ℕ) : Type 0 where
  pub empty : under told dir ≡ []
  pub there : HasFile told pkg
  pub count : ℕ
  pub within : count ≤ length (meant told pkg).files
  pub files : (after ≡ with_files told dir (take count (meant told pkg).files)) ⊎ IsCut told after dir (meant told pkg).files count

-- the files are as before, or some of the package's stand in the target
abbrev pub IsUnfinished : Told → Told → List ℕ → List ℕ → Type 0
IsUnfinished told after pkg dir = (after ≡ told) ⊎ IsRestoredPartly told after pkg dir

-- the answers of restore, and what stands after each
abbrev pub RestoreLaw : Told → Told → List ℕ → List ℕ → Status → Type 0
RestoreLaw told after pkg dir Done = IsRestored told after pkg dir None
RestoreLaw told after pkg dir ReportFault = IsRestored told after pkg dir None
RestoreLaw told after pkg dir (PackageRefused why) = IsRestored told after pkg dir (Some why)
RestoreLaw told after pkg dir (InTheWay name) = IsOccupied told after dir name
RestoreLaw told after pkg dir (Missing name) = IsNoPackage told after pkg dir name
RestoreLaw told after pkg dir ShelfFault = IsUnfinished told after pkg dir
RestoreLaw told after pkg dir NoMemory = IsUnfinished told after pkg dir
RestoreLaw told after pkg dir (Changed name was now) = IsTold told → ⊥
RestoreLaw told after pkg dir (Refused name why) = ⊥
RestoreLaw told after pkg dir Usage = ⊥

-- the target is empty, the package is there, and its meaning ends so
pub record Ends (told : Told) (pkg dir : List ℕ) (last : Option PackageWhy) : Type 0 where
  pub empty : under told dir ≡ []
  pub there : HasFile told pkg
  pub ends : (meant told pkg).end ≡ last

-- the target is empty, and the package is not there
pub record IsWithout (told : Told) (pkg dir name : List ℕ) : Type 0 where
  pub empty : under told dir ≡ []
  pub free : IsFree told pkg
  pub named : name ≡ pkg

-- the one answer of each case, or want of memory
abbrev pub RestoreFirst : Told → List ℕ → List ℕ → Status → Type 0
RestoreFirst told pkg dir (InTheWay name) = IsFirstUnder told dir name
RestoreFirst told pkg dir (Missing name) = IsWithout told pkg dir name
RestoreFirst told pkg dir (PackageRefused why) = Ends told pkg dir (Some why)
RestoreFirst told pkg dir Done = Ends told pkg dir None
RestoreFirst told pkg dir NoMemory = Unit {0}
RestoreFirst told pkg dir status = ⊥

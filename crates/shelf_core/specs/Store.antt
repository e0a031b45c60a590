-- Files in memory: they stand in a list, and their names rise byte by byte.
use Rattle.std.specs.Prelude.{◌≡◌, ℕ, ◌<◌, ◌≤◌, Bool, IsTrue, List, ◌∷◌, ◌++◌, length, take, drop, All, Option, Some, None, is_some, slice_index_or, slice_set}
use Rattle.std.specs.declared.cmp.Ordering.{Ordering}
use Rattle.std.specs.List.{list_all}
use Rattle.std.specs.Ordering.{nat_cmp}
use Rattle.std.specs.Cmp.Lexicographic.{slice_cmp}
use Rattle.std.specs.FinMap.{from_sorted, find, put, is_sorted}
use Rattle.cook_bits.specs.Bits.{AreBytes}
use Rattle.cook_bits.specs.Names.{File}
use Rattle.shelf_core.specs.Told.{Told}

-- names in byte order
abbrev pub byte_order : List ℕ → List ℕ → Ordering
byte_order = slice_cmp nat_cmp

-- the names of the files rise, so no name comes twice
abbrev pub IsAscending : List File → Type 0
IsAscending files = IsTrue (is_sorted byte_order files)

-- the contents of the files are bytes
abbrev pub AreOfBytes : List File → Type 0
AreOfBytes files = All (λ file. AreBytes file.1) files

-- what a shelf tells that holds these files, whose names rise
unfoldable pub told_of : List File → Told
told_of files = Some (from_sorted files)

-- the bytes of the file of a name, where there is one
unfoldable pub bytes_in : List File → List ℕ → Option (List ℕ)
bytes_in files name = find byte_order name files

-- the files with this one added in its place, or in the place of the one of that name
unfoldable pub put_in : List File → List ℕ → List ℕ → List File
put_in files name bytes = put byte_order name bytes files

-- each of the names is one of the files
unfoldable pub are_there : List (List ℕ) → List File → Bool
are_there names files = list_all (λ name. is_some (find byte_order name files)) names

abbrev pub AreThere : List (List ℕ) → List File → Type 0
AreThere names files = IsTrue (are_there names files)

-- the file of a name stands at a place
pub record StandsAt (files : List File) (name : List ℕ) (place : ℕ) : Type 0 where
  pub within : place < length files
  pub named : (file : File) → (slice_index_or files place file).0 ≡ name
  pub holds : (file : File) → bytes_in files name ≡ Some (slice_index_or files place file).1
  pub put : (bytes : List ℕ) → put_in files name bytes ≡ slice_set files place (name, bytes)

-- no file has the name, and one would stand at a place
pub record BelongsAt (files : List File) (name : List ℕ) (place : ℕ) : Type 0 where
  pub within : place ≤ length files
  pub free : bytes_in files name ≡ None
  pub put : (bytes : List ℕ) → put_in files name bytes ≡ take place files ++ (name, bytes) ∷ drop place files

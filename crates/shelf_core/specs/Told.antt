-- What a shelf tells of its files: all of them, or nothing. Each word here holds by itself where nothing is told, or is
-- the same nothing, so that one clause serves every shelf. The words are opaque, and the crates above mostly use their
-- laws (`FileLaws.antt`).
use Rattle.std.specs.Prelude.{◌≡◌, ◌≢◌, ℕ, ◌-◌, ◌≤◌, min, not, List, [], ◌∷◌, ◌++◌, length, take, drop, filter, Contains, Option, Some, None, IsSome, unwrap_or}
use Rattle.std.specs.Option.{option_map}
use Rattle.std.specs.Ordering.{nat_cmp}
use Rattle.std.specs.Cmp.Lexicographic.{slice_cmp}
use Rattle.std.specs.FinMap.{FinMap, entries, get, insert}
use Rattle.cook_bits.specs.Bits.{AreBytes}
use Rattle.cook_bits.specs.Names.{File, files_under, full_name, is_same_name}

-- what is read of a list of files past its end
abbrev pub no_file : File
no_file = ([], [])

-- files by their full names, in byte order of names
abbrev pub Files : Type 0
Files = FinMap (slice_cmp nat_cmp) (List ℕ)

-- the files, where the shelf tells them
abbrev pub Told : Type 0
Told = Option Files

-- the shelf tells its files
unfoldable pub IsTold : Told → Type 0
IsTold None = ⊥
IsTold (Some files) = Unit {0}

-- the name is one of the files
unfoldable pub HasFile : Told → List ℕ → Type 0
HasFile None name = Unit {0}
HasFile (Some files) name = IsSome (get files name)

-- no file has the name
unfoldable pub IsFree : Told → List ℕ → Type 0
IsFree None name = Unit {0}
IsFree (Some files) name = get files name ≡ None

-- two names differ
unfoldable pub IsApart : Told → List ℕ → List ℕ → Type 0
IsApart None name other = Unit {0}
IsApart (Some files) name other = name ≢ other

-- the bytes of a file
unfoldable pub content : Told → List ℕ → List ℕ
content None name = []
content (Some files) name = unwrap_or (get files name) []

-- the contents of the files are bytes
abbrev pub HoldsBytes : Told → Type 0
HoldsBytes told = (name : List ℕ) → AreBytes (content told name)

-- the length of a file, where there is one
unfoldable pub length_of : Told → List ℕ → Option ℕ
length_of None name = None
length_of (Some files) name = option_map length (get files name)

-- the files with this one added, or in the place of the one of that name
unfoldable pub with_file : Told → List ℕ → List ℕ → Told
with_file None name bytes = None
with_file (Some files) name bytes = Some (insert files name bytes)

-- the files after bytes were added at the end of one
abbrev pub grown : Told → List ℕ → List ℕ → Told
grown told name bytes = with_file told name (content told name ++ bytes)

-- files added under a root, one after another
unfoldable pub with_files : Told → List ℕ → List File → Told
with_files told root [] = told
with_files told root (file ∷ files) = with_files (with_file told (full_name root file.0) file.1) root files

-- the files under a root, by their relative names, in byte order
unfoldable pub under : Told → List ℕ → List File
under None root = []
under (Some files) root = files_under root (entries files)

-- the first bytes of some were added at the end of a file
pub record GrewPartly (before : Told) (name bytes : List ℕ) (after : Told) : Type 0 where
  pub count : ℕ
  pub within : count ≤ length bytes
  pub is : after ≡ grown before name (take count bytes)

-- A read from a place gave so many bytes: as many as there was room for, or up to the end.
pub record IsRead (bytes : List ℕ) (at room : ℕ) (buffer : List ℕ) (count : ℕ) : Type 0 where
  pub counts : count ≡ min room (length bytes - at)
  pub gives : take count buffer ≡ take count (drop at bytes)

-- the names of the files that were created and not sealed since, in order of creation
abbrev pub Unsealed : Type 0
Unsealed = Option (List (List ℕ))

-- the file was created and not sealed since
unfoldable pub IsUnsealedIn : Unsealed → List ℕ → Type 0
IsUnsealedIn None name = Unit {0}
IsUnsealedIn (Some names) name = Contains names name

-- a file of that name isn't being written
unfoldable pub IsNotUnsealed : Unsealed → List ℕ → Type 0
IsNotUnsealed None name = Unit {0}
IsNotUnsealed (Some names) name = Contains names name → ⊥

unfoldable pub with_unsealed : Unsealed → List ℕ → Unsealed
with_unsealed None name = None
with_unsealed (Some names) name = Some (names ++ name ∷ [])

unfoldable pub without_unsealed : Unsealed → List ℕ → Unsealed
without_unsealed None name = None
without_unsealed (Some names) name = Some (filter (λ other. not (is_same_name name other)) names)

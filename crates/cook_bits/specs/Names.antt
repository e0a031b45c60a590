-- Names of files, as lists of the bytes of their UTF-8, and directories: lists of names and contents.
use Rattle.std.specs.Prelude.{ℕ, Bool, true, false, ◌&&◌, not, List, [], ◌∷◌, ◌++◌, length, Option, Some, None, IsTrue, nat_eq, nat_le, ◌==◌, if◌then◌else◌}
use Rattle.std.specs.List.{list_any, list_all, filter_map}
use Rattle.std.specs.Cmp.Lexicographic.{pointwise}

-- a name and the bytes of its file
abbrev pub File : Type 0
File = List ℕ × List ℕ

-- two names are the same, byte for byte
abbrev pub is_same_name : List ℕ → List ℕ → Bool
is_same_name = pointwise nat_eq

-- a byte more at the front of the first part
abbrev pub with_first : ℕ → List (List ℕ) → List (List ℕ)
with_first byte [] = (byte ∷ []) ∷ []
with_first byte (part ∷ parts) = (byte ∷ part) ∷ parts

-- the parts of a name between its slashes (byte 47)
unfoldable pub segments_of : List ℕ → List (List ℕ)
segments_of [] = [] ∷ []
segments_of (byte ∷ rest) = if byte == 47 then [] ∷ segments_of rest else with_first byte (segments_of rest)

-- a segment that names something: not empty, not `.` and not `..`
abbrev pub is_plain_segment : List ℕ → Bool
is_plain_segment [] = false
is_plain_segment (a ∷ []) = not (a == 46)
is_plain_segment (a ∷ b ∷ []) = not ((a == 46) && (b == 46))
is_plain_segment (a ∷ b ∷ c ∷ rest) = true

-- plain segments joined by slashes, 1 to 1,024 bytes in all, with no byte zero
unfoldable pub is_relative_name : List ℕ → Bool
is_relative_name name = nat_le (length name) 1024 && (not (list_any (nat_eq 0) name) && list_all is_plain_segment (segments_of name))

abbrev pub IsRelativeName : List ℕ → Type 0
IsRelativeName name = IsTrue (is_relative_name name)

-- a byte more at the front of each name
abbrev pub each_with_first : ℕ → List (List ℕ) → List (List ℕ)
each_with_first byte [] = []
each_with_first byte (name ∷ names) = (byte ∷ name) ∷ each_with_first byte names

-- the prefixes of a name that end just before a slash, the shorter first
unfoldable pub proper_folders_of : List ℕ → List (List ℕ)
proper_folders_of [] = []
proper_folders_of (byte ∷ rest) = if byte == 47 then [] ∷ each_with_first byte (proper_folders_of rest) else each_with_first byte (proper_folders_of rest)

-- some proper folder of the name is among the names
unfoldable pub holds_folder_of : List (List ℕ) → List ℕ → Bool
holds_folder_of names name = list_any (λ folder. list_any (is_same_name folder) names) (proper_folders_of name)

-- what stands behind a front
unfoldable pub rest_behind : List ℕ → List ℕ → Option (List ℕ)
rest_behind [] name = Some name
rest_behind (a ∷ front) [] = None
rest_behind (a ∷ front) (b ∷ name) = if a == b then rest_behind front name else None

abbrev pub non_empty : Option (List ℕ) → Option (List ℕ)
non_empty None = None
non_empty (Some []) = None
non_empty (Some (byte ∷ rest)) = Some (byte ∷ rest)

-- the name relative to a root: what stands behind the root and a slash, where that is something
abbrev pub relative_to : List ℕ → List ℕ → Option (List ℕ)
relative_to root name = non_empty (rest_behind (root ++ 47 ∷ []) name)

-- the full name of a relative name: the root, a slash and the name
abbrev pub full_name : List ℕ → List ℕ → List ℕ
full_name root name = root ++ 47 ∷ name

abbrev pub renamed : Option (List ℕ) → List ℕ → Option File
renamed None bytes = None
renamed (Some name) bytes = Some (name, bytes)

-- the files under a root, by their relative names, in the order in which they stand
unfoldable pub files_under : List ℕ → List File → List File
files_under root = filter_map (λ file. renamed (relative_to root file.0) file.1)

-- Names that are held, in order of insertion, and the folders that were given.
use Rattle.std.specs.Prelude.{◌≡◌, ℕ, Bool, not, ◌||◌, List, [], ◌∷◌, map, Option, Some, None, Result, Ok, Err, if◌then◌else◌}
use Rattle.std.specs.List.{list_any, count_by, enumerate_from}
use Rattle.std.specs.Ordering.{nat_cmp, is_lt}
use Rattle.std.specs.Cmp.Lexicographic.{slice_cmp}
use Rattle.cook_bits.specs.Names.{is_same_name, is_relative_name, proper_folders_of, holds_folder_of}
use Rattle.name_tree.specs.declared.error.NameError.{NameError}
use Rattle.name_tree.specs.declared.error.NameError.TheVariants.{Bad, Exists, UnderFile, OverFolder, NoMemory}

pub record Held : Type 0 where
  pub names : List (List ℕ)
  pub given : List (List ℕ)

abbrev pub is_among : List (List ℕ) → List ℕ → Bool
is_among names name = list_any (is_same_name name) names

-- the name is a proper folder of one that is held
abbrev pub is_folder_among : List (List ℕ) → List ℕ → Bool
is_folder_among names name = list_any (λ held. is_among (proper_folders_of held) name) names

-- why a name is not taken beside those that are held
unfoldable pub refusal_of : List (List ℕ) → List ℕ → Option NameError
refusal_of names name =
    if not (is_relative_name name) then Some Bad
    else if is_among names name then Some Exists
    else if holds_folder_of names name then Some UnderFile
    else if is_folder_among names name then Some OverFolder
    else None

-- what was answered is the refusal or its absence, unless memory ran out
abbrev pub Answers : {X : Type 0} → Result X NameError → Option NameError → Type 0
Answers (Ok _) refusal = refusal ≡ None
Answers (Err NoMemory) refusal = Unit {0}
Answers (Err why) refusal = refusal ≡ Some why

-- ---- the walk

-- a number and its name
abbrev pub Numbered : Type 0
Numbered = ℕ × List ℕ

-- put before the first whose name is above it
abbrev pub placed : Numbered → List Numbered → List Numbered
placed entry [] = entry ∷ []
placed entry (other ∷ rest) = if is_lt (slice_cmp nat_cmp entry.1 other.1) then entry ∷ other ∷ rest else other ∷ placed entry rest

abbrev pub in_order : List Numbered → List Numbered
in_order [] = []
in_order (entry ∷ rest) = placed entry (in_order rest)

-- the numbers of the names, counted from 0, in byte order of the names
unfoldable pub walk_of : List (List ℕ) → List ℕ
walk_of names = map (λ entry. entry.0) (in_order (enumerate_from 0 names))

-- ---- the folders that were given

-- the first that is not among the given
abbrev pub first_left : List (List ℕ) → List (List ℕ) → Option (List ℕ)
first_left given [] = None
first_left given (folder ∷ folders) = if is_among given folder then first_left given folders else Some folder

-- the shortest proper folder of the name that was not given
unfoldable pub folder_left : List (List ℕ) → List ℕ → Option (List ℕ)
folder_left given name = first_left given (proper_folders_of name)

-- how many proper folders of the name were not given
unfoldable pub left_count : List (List ℕ) → List ℕ → ℕ
left_count given name = count_by (λ folder. not (is_among given folder)) (proper_folders_of name)

-- the folders that were given, and this one
abbrev pub WithFolder : List (List ℕ) → List (List ℕ) → Option (List ℕ) → Type 0
WithFolder before after None = after ≡ before
WithFolder before after (Some folder) = (name : List ℕ) → is_among after name ≡ (is_same_name name folder || is_among before name)

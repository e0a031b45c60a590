-- The offence of a listing: the first entry, in byte order of names, that breaks a rule, and the first rule that it breaks.
use Rattle.std.specs.Prelude.{ℕ, ◌+◌, ◌^◌, Bool, true, false, not, nat_le, nat_lt, ◌≡◌, List, [], ◌∷◌, ◌++◌, length, map, sum_by, Option, Some, None}
use Rattle.cook_bits.specs.Names.{File, is_relative_name, is_same_name, holds_folder_of}
use Rattle.cook_pack.specs.Film.{is_film_or_sound}
use Rattle.cook_pack.specs.declared.error.RefuseWhy.{RefuseWhy}
use Rattle.cook_pack.specs.declared.error.RefuseWhy.TheVariants.{NotPlain, BadName, Twice, UnderFile, TooManyFiles, TooLarge, Unbuilt}

-- an entry of a listing, with the bytes of its file
pub record Listed : Type 0 where
  pub name : List ℕ
  pub plain : Bool
  pub bytes : List ℕ

-- a plain file
abbrev pub listed : File → Listed
listed file = record { name = file.0; plain = true; bytes = file.1 }

abbrev pub names_of : List Listed → List (List ℕ)
names_of listing = map (λ entry. entry.name) listing

-- whether the last of the names is this one
abbrev pub ends_with_name : List (List ℕ) → List ℕ → Bool
ends_with_name [] name = false
ends_with_name (last ∷ []) name = is_same_name last name
ends_with_name (first ∷ next ∷ names) name = ends_with_name (next ∷ names) name

-- The rules in their order, and whether an entry breaks each: first those on the names of the listing and of the entries
-- before it, which need no file,
unfoldable pub broken_by_listing : List (List ℕ) → List (List ℕ) → List ℕ → Bool → List (Bool × RefuseWhy)
broken_by_listing names before name plain =
    (not plain, NotPlain)
    ∷ (not (is_relative_name name), BadName)
    ∷ (ends_with_name before name, Twice)
    ∷ (holds_folder_of names name, UnderFile)
    ∷ (nat_le 1000000 (length before), TooManyFiles)
    ∷ []

-- then those on the file, by the bytes of the files before it and by its own
unfoldable pub broken_by_file : ℕ → List ℕ → ℕ → List (Bool × RefuseWhy)
broken_by_file total name len =
    (nat_lt (2 ^ 50) (total + len), TooLarge)
    ∷ (is_film_or_sound name, Unbuilt)
    ∷ []

abbrev pub broken_rules : List Listed → List Listed → Listed → List (Bool × RefuseWhy)
broken_rules listing before entry =
    broken_by_listing (names_of listing) (names_of before) entry.name entry.plain
    ++ broken_by_file (sum_by (λ e. length e.bytes) before) entry.name (length entry.bytes)

unfoldable pub first_offence : List (Bool × RefuseWhy) → Option RefuseWhy
first_offence [] = None
first_offence ((true, why) ∷ rules) = Some why
first_offence ((false, why) ∷ rules) = first_offence rules

-- the rule that an entry breaks with its name, or else what comes later
abbrev pub or_later : Option RefuseWhy → List ℕ → Option (List ℕ × RefuseWhy) → Option (List ℕ × RefuseWhy)
or_later None name later = later
or_later (Some why) name later = Some (name, why)

-- the first of some entries that breaks a rule, where others of the listing stand before them
unfoldable pub offence_from : List Listed → List Listed → List Listed → Option (List ℕ × RefuseWhy)
offence_from listing before [] = None
offence_from listing before (entry ∷ entries) =
    or_later (first_offence (broken_rules listing before entry)) entry.name (offence_from listing (before ++ entry ∷ []) entries)

abbrev pub offence_of : List Listed → Option (List ℕ × RefuseWhy)
offence_of listing = offence_from listing [] listing

-- the offence of a directory, whose files are all plain
unfoldable pub offence_of_directory : List File → Option (List ℕ × RefuseWhy)
offence_of_directory directory = offence_of (map listed directory)

-- a directory that pack takes
abbrev pub IsInProfile : List File → Type 0
IsInProfile directory = offence_of_directory directory ≡ None

-- a rule that a plain file may break that is listed once
abbrev pub IsOfPlainFile : RefuseWhy → Type 0
IsOfPlainFile NotPlain = ⊥
IsOfPlainFile Twice = ⊥
IsOfPlainFile BadName = Unit {0}
IsOfPlainFile UnderFile = Unit {0}
IsOfPlainFile TooManyFiles = Unit {0}
IsOfPlainFile TooLarge = Unit {0}
IsOfPlainFile Unbuilt = Unit {0}

-- What holds of names that are taken one after another.
use Rattle.std.specs.Prelude.{◌≡◌, ℕ, ◌<◌, false, not, List, length, take, All, Option, Some, None, if◌then◌else◌}
use Rattle.std.specs.List.{AllAdjacentBelow, slice_index_or as get_or}
use Rattle.std.specs.Ordering.{nat_cmp}
use Rattle.std.specs.declared.cmp.Ordering.TheVariants.{Less}
use Rattle.std.specs.Cmp.Lexicographic.{slice_cmp}
use Rattle.cook_bits.specs.Names.{is_relative_name, IsRelativeName, holds_folder_of}
use Rattle.name_tree.specs.declared.error.NameError.{NameError}
use Rattle.name_tree.specs.declared.error.NameError.TheVariants.{Bad, UnderFile}
use Rattle.name_tree.specs.Held.{refusal_of}

-- the first name stands before the second in byte order
abbrev pub IsBelow : List ℕ → List ℕ → Type 0
IsBelow name next = slice_cmp nat_cmp name next ≡ Less

-- why a name is not taken that stands behind all that are held
abbrev pub refusal_behind : List (List ℕ) → List ℕ → Option NameError
refusal_behind names name = if not (is_relative_name name) then Some Bad else if holds_folder_of names name then Some UnderFile else None

-- A name that stands behind all that are held is refused only where it is no relative name, or under one of them.
abbrev pub RefusesBehind : Type 0
RefusesBehind = (names : List (List ℕ)) (name : List ℕ) → All (λ held. IsBelow held name) names → refusal_of names name ≡ refusal_behind names name

-- Of relative names, each behind the one before and none a folder of another, each is taken beside those before it.
abbrev pub TakesInOrder : Type 0
TakesInOrder = (names : List (List ℕ)) (at : ℕ) (d : List ℕ) → All IsRelativeName names → AllAdjacentBelow IsBelow names (length names)
    → All (λ name. holds_folder_of names name ≡ false) names → at < length names → refusal_of (take at names) (get_or names at d) ≡ None

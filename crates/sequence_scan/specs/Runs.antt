-- The runs of a listing of frames. A frame begins a run where its predecessor isn't listed; any other frame is in the
-- run of its predecessor.
use Rattle.std.specs.Prelude.{ℕ, zero, suc, ◌≤◌, ◌≡◌, All, ◌++◌, Bool, List, [], ◌∷◌, length, map, position, Option, is_none, nat_eq, slice_index_or, if◌then◌else◌}
use Rattle.std.specs.Option.{option_map_or}
use Rattle.std.specs.List.{AllAdjacentBelow}
use Rattle.std.specs.Ordering.{nat_cmp}
use Rattle.std.specs.Cmp.Lexicographic.{slice_cmp}
use Rattle.std.specs.declared.cmp.Ordering.TheVariants.{Less}
use Rattle.sequence_scan.specs.declared.run.Run.{Run}
use Rattle.sequence_scan.specs.Numbers.{is_predecessor, number_of}

-- names in byte order, none twice, each with an ending of four bytes, as `.dpx`
pub record AreFrames (names : List (List ℕ)) : Type 0 where
  pub ended : All (λ name. 4 ≤ length name) names
  pub ascending : AllAdjacentBelow (λ name next. slice_cmp nat_cmp name next ≡ Less) names (length names)

-- the name at a place
abbrev pub name_at : List (List ℕ) → ℕ → List ℕ
name_at names place = slice_index_or names place []

-- where the predecessor of the name at a place is listed, if it is
unfoldable pub predecessor_of : List (List ℕ) → ℕ → Option ℕ
predecessor_of names place = position (λ other. is_predecessor other (name_at names place)) names

-- the frame at a place begins a run
unfoldable pub begins_run : List (List ℕ) → ℕ → Bool
begins_run names place = is_none (predecessor_of names place)

-- from predecessor to predecessor while they are listed, with at most so many steps
unfoldable pub back_from : List (List ℕ) → ℕ → ℕ → ℕ
back_from names zero place = place
back_from names (suc steps) place = option_map_or (back_from names steps) (predecessor_of names place) place

-- the first place of the run of the frame at a place: each step back takes one from the number
unfoldable pub first_of : List (List ℕ) → ℕ → ℕ
first_of names place = back_from names (number_of (name_at names place)) place

-- the places below a bound that pass a test, in order
unfoldable pub places_where : (ℕ → Bool) → ℕ → List ℕ
places_where test zero = []
places_where test (suc bound) = if test bound then places_where test bound ++ bound ∷ [] else places_where test bound

-- the frame at a place is in the run that begins at the first
abbrev pub in_run : List (List ℕ) → ℕ → ℕ → Bool
in_run names first place = nat_eq (first_of names place) first

-- the run that begins at a place
unfoldable pub run_at : List (List ℕ) → ℕ → ℕ → Run
run_at names bound first = record { first = first; members = places_where (in_run names first) bound }

-- the runs of a listing, in the order of their first places
unfoldable pub runs_of : List (List ℕ) → List Run
runs_of names = map (run_at names (length names)) (places_where (begins_run names) (length names))

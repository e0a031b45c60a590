-- What the code holds on its way through a listing.
use Rattle.std.specs.Prelude.{ℕ, zero, suc, ◌+◌, ◌≡◌, Bool, true, ◌&&◌, List, [], ◌∷◌, ◌++◌, length, map, Option, Some, None, option_map, nat_eq, slice_set, slice_index_or, if◌then◌else◌}
use Rattle.std.specs.declared.hash.FoldHasher.{FoldHasher}
use Rattle.std.specs.declared.hash.BuildHasherDefault.{BuildHasherDefault}
use Rattle.indexmap.specs.IndexMap.{IndexMap, get}
use Rattle.cook_bits.specs.Names.{is_same_name}
use Rattle.sequence_scan.specs.declared.number.Sequence.{Sequence}
use Rattle.sequence_scan.specs.declared.number.NumberedName.{NumberedName}
use Rattle.sequence_scan.specs.declared.run.Run.{Run}
use Rattle.sequence_scan.specs.declared.scan.LastFrame.{LastFrame}
use Rattle.sequence_scan.specs.Numbers.{is_no_digit, is_no_slash, is_numbered, before_of, digits_of, after_of, number_of}
use Rattle.sequence_scan.specs.Runs.{name_at, begins_run, first_of, places_where, run_at}

-- what stands between a number and the end of its base
abbrev pub is_tail : ℕ → Bool
is_tail byte = is_no_slash byte && is_no_digit byte

-- the parts of a numbered name
pub record IsParted (name : List ℕ) (parted : NumberedName) : Type 0 where
  pub numbered : is_numbered name ≡ true
  pub before : parted.sequence.before.now ≡ before_of name
  pub digits : parted.sequence.digits ≡ length (digits_of name)
  pub after : parted.sequence.after.now ≡ after_of name
  pub number : parted.number ≡ number_of name

-- the runs that begin below a bound, with their members below it
unfoldable pub runs_below : List (List ℕ) → ℕ → List Run
runs_below names bound = map (run_at names bound) (places_where (begins_run names) bound)

-- how many runs begin before the run of the frame at a place
unfoldable pub run_number : List (List ℕ) → ℕ → ℕ
run_number names place = length (places_where (begins_run names) (first_of names place))

-- a run of one frame, and a run with one frame more
abbrev pub begun_run : ℕ → Run
begun_run place = record { first = place; members = place ∷ [] }

abbrev pub longer_run : Run → ℕ → Run
longer_run run place = record { first = run.first; members = run.members ++ place ∷ [] }

-- the runs with one frame more: in the run of that number, or in a run of its own
unfoldable pub with_frame : List Run → Option ℕ → ℕ → List Run
with_frame runs None place = runs ++ begun_run place ∷ []
with_frame runs (Some run) place = slice_set runs run (longer_run (slice_index_or runs run (begun_run place)) place)

-- a name is one of a numbered sequence
unfoldable pub is_in : Sequence → List ℕ → Bool
is_in sequence name = is_numbered name && (is_same_name (before_of name) sequence.before.now && (nat_eq (length (digits_of name)) sequence.digits && is_same_name (after_of name) sequence.after.now))

-- the last place of a sequence below a bound
unfoldable pub last_of : List (List ℕ) → ℕ → Sequence → Option ℕ
last_of names zero sequence = None
last_of names (suc bound) sequence = if is_in sequence (name_at names bound) then Some bound else last_of names bound sequence

-- the run and the number of the frame at a place
abbrev pub frame_at : List (List ℕ) → ℕ → LastFrame
frame_at names place = record { run = run_number names place; number = number_of (name_at names place) }

abbrev pub same_sequence : Sequence → Sequence → Bool
same_sequence x y = is_same_name x.before.now y.before.now && (nat_eq x.digits y.digits && is_same_name x.after.now y.after.now)

-- the run of a sequence's last frame, if the number is one above it
unfoldable pub run_going_on : Option LastFrame → ℕ → Option ℕ
run_going_on None number = None
run_going_on (Some last) number = if nat_eq (last.number + 1) number then Some last.run else None

-- each sequence with its last frame below a bound
abbrev pub LastFrames : Type 0
LastFrames = IndexMap Sequence LastFrame (BuildHasherDefault FoldHasher)

pub record AreLastBelow (names : List (List ℕ)) (bound : ℕ) (last : LastFrames) : Type 0 where
  pub each : (sequence : Sequence) → get same_sequence last sequence ≡ option_map (frame_at names) (last_of names bound sequence)

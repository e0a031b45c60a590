-- What holds of the runs of each listing.
use Rattle.std.specs.Prelude.{ℕ, ◌<◌, ◌≤◌, ◌≡◌, true, List, ◌++◌, length, All, Some, slice_get, nat_eq, count_by}
use Rattle.std.specs.List.{AllAdjacentBelow, list_any}
use Rattle.sequence_scan.specs.declared.run.Run.{Run}
use Rattle.sequence_scan.specs.Numbers.{is_predecessor}
use Rattle.sequence_scan.specs.Runs.{AreFrames, name_at, begins_run, first_of, runs_of}

-- a run's first member begins it, and each other is numbered one above the one before
pub record IsRun (names : List (List ℕ)) (run : Run) : Type 0 where
  pub first : slice_get run.members 0 ≡ Some run.first
  pub begins : begins_run names run.first ≡ true
  pub follows : AllAdjacentBelow (λ place next. is_predecessor (name_at names place) (name_at names next) ≡ true) run.members (length run.members)

abbrev pub MembersFollow : Type 0
MembersFollow = (names : List (List ℕ)) → AreFrames names → All (IsRun names) (runs_of names)

-- each frame is in exactly one run
abbrev pub EachInOneRun : Type 0
EachInOneRun = (names : List (List ℕ)) → AreFrames names → (place : ℕ) → place < length names → count_by (λ run. list_any (nat_eq place) run.members) (runs_of names) ≡ 1

-- a frame is in the run that begins at its first place
abbrev pub MembersByFirst : Type 0
MembersByFirst = (names : List (List ℕ)) → All (λ run. (place : ℕ) → place < length names → list_any (nat_eq place) run.members ≡ nat_eq (first_of names place) run.first) (runs_of names)

-- what is listed after a frame doesn't change where its run begins
abbrev pub FirstStays : Type 0
FirstStays = (names more : List (List ℕ)) → AreFrames (names ++ more) → (place : ℕ) → place < length names → first_of (names ++ more) place ≡ first_of names place

-- a name has at most one predecessor
abbrev pub OnePredecessor : Type 0
OnePredecessor = (a b name : List ℕ) → 4 ≤ length a → 4 ≤ length b → is_predecessor a name ≡ true → is_predecessor b name ≡ true → a ≡ b

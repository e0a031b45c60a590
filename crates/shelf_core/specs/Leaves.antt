-- What stands after the writing of a new file was stopped.
use Rattle.std.specs.Prelude.{◌≡◌, ◌⊎◌, ℕ, ◌≤◌, List, length, take}
use Rattle.shelf_core.specs.Told.{Told, IsFree, Unsealed, with_file, with_unsealed}

-- nothing was changed
pub record LeavesNothing (told after : Told) (unsealed_before unsealed_after : Unsealed) : Type 0 where
  pub files : after ≡ told
  pub unsealed : unsealed_after ≡ unsealed_before

-- the name was free, and the file stands unsealed with a front of the bytes that it was to hold
pub record LeavesPart (told after : Told) (unsealed_before unsealed_after : Unsealed) (name whole : List ℕ) : Type 0 where
  pub free : IsFree told name
  pub count : ℕ
  pub within : count ≤ length whole
  pub files : after ≡ with_file told name (take count whole)
  pub unsealed : unsealed_after ≡ with_unsealed unsealed_before name

-- nothing, or the file in part
abbrev pub Leaves : Told → Told → Unsealed → Unsealed → List ℕ → List ℕ → Type 0
Leaves told after unsealed_before unsealed_after name whole = LeavesNothing told after unsealed_before unsealed_after ⊎ LeavesPart told after unsealed_before unsealed_after name whole

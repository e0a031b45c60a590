-- A shelf as it was and as it is: what a call that writes one file leaves of it. Of the other files it tells the same.
use Rattle.std.specs.Prelude.{◌≡◌, ◌≤◌, List, [], ℕ}
use Rattle.shelf_core.specs.Leaves.{LeavesNothing, LeavesPart, Leaves}
use Rattle.shelf_core.specs.Told.{IsFree, IsNotUnsealed, GrewPartly, grown, with_file, with_unsealed}
use Rattle.shelf_core.specs.declared.shelf.Shelf.{Ghosts}

-- A new file was created, is empty, and may be appended to. No count fell.
pub record Created {S : Type 0} (g : Ghosts S) (old new : S) (name : List ℕ) : Type 0 where
  pub free : IsFree (g.files old) name
  pub not_unsealed : IsNotUnsealed (g.unsealed old) name
  pub files : g.files new ≡ with_file (g.files old) name []
  pub unsealed : g.unsealed new ≡ with_unsealed (g.unsealed old) name
  pub faults : g.faults old ≤ g.faults new
  pub starved : g.starved old ≤ g.starved new

-- Bytes were added at the end of a file. No count fell.
pub record Grew {S : Type 0} (g : Ghosts S) (old new : S) (name bytes : List ℕ) : Type 0 where
  pub files : g.files new ≡ grown (g.files old) name bytes
  pub unsealed : g.unsealed new ≡ g.unsealed old
  pub faults : g.faults old ≤ g.faults new
  pub starved : g.starved old ≤ g.starved new

-- The first of the bytes were. No count fell.
pub record GrewInPart {S : Type 0} (g : Ghosts S) (old new : S) (name bytes : List ℕ) : Type 0 where
  pub files : GrewPartly (g.files old) name bytes (g.files new)
  pub unsealed : g.unsealed new ≡ g.unsealed old
  pub faults : g.faults old ≤ g.faults new
  pub starved : g.starved old ≤ g.starved new

-- A new file was written, and sealed. No count fell.
pub record Wrote {S : Type 0} (g : Ghosts S) (old new : S) (name bytes : List ℕ) : Type 0 where
  pub free : IsFree (g.files old) name
  pub files : g.files new ≡ with_file (g.files old) name bytes
  pub unsealed : g.unsealed new ≡ g.unsealed old
  pub faults : g.faults old ≤ g.faults new
  pub starved : g.starved old ≤ g.starved new

-- What it tells is as it was.
abbrev pub Unchanged : {S : Type 0} → Ghosts S → S → S → Type 0
Unchanged g old new = LeavesNothing (g.files old) (g.files new) (g.unsealed old) (g.unsealed new)

-- A new file was written in part: it stands unsealed, with a front of the bytes that it was to hold.
abbrev pub WroteInPart : {S : Type 0} → Ghosts S → S → S → List ℕ → List ℕ → Type 0
WroteInPart g old new name whole = LeavesPart (g.files old) (g.files new) (g.unsealed old) (g.unsealed new) name whole

-- The writing of a new file was stopped: nothing was changed, or the file was written in part.
abbrev pub StoppedWriting : {S : Type 0} → Ghosts S → S → S → List ℕ → List ℕ → Type 0
StoppedWriting g old new name whole = Leaves (g.files old) (g.files new) (g.unsealed old) (g.unsealed new) name whole

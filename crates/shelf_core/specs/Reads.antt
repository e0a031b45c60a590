-- A shelf: what it tells of one file. A shelf as it was and as it is: what a call that only reads leaves of it, and for
-- which answers its counts rose.
use Rattle.std.specs.Prelude.{◌≡◌, ◌≤◌, ℕ, List, Result, Err}
use Rattle.shelf_core.specs.Causes.{Rose}
use Rattle.shelf_core.specs.Told.{IsTold, HasFile, IsFree, IsApart, IsUnsealedIn, content}
use Rattle.shelf_core.specs.declared.shelf.Shelf.{Ghosts}

-- ---- a shelf

-- it tells its files
abbrev pub Tells : {S : Type 0} → Ghosts S → S → Type 0
Tells g shelf = IsTold (g.files shelf)

-- it has a file of the name
abbrev pub Has : {S : Type 0} → Ghosts S → S → List ℕ → Type 0
Has g shelf name = HasFile (g.files shelf) name

-- it has none
abbrev pub HasNo : {S : Type 0} → Ghosts S → S → List ℕ → Type 0
HasNo g shelf name = IsFree (g.files shelf) name

-- the file of the name was created and not sealed since
abbrev pub IsUnsealed : {S : Type 0} → Ghosts S → S → List ℕ → Type 0
IsUnsealed g shelf name = IsUnsealedIn (g.unsealed shelf) name

-- two names differ, where it tells its files
abbrev pub Differ : {S : Type 0} → Ghosts S → S → List ℕ → List ℕ → Type 0
Differ g shelf name other = IsApart (g.files shelf) name other

-- the bytes of a file, where it tells them
abbrev pub bytes_of : {S : Type 0} → Ghosts S → S → List ℕ → List ℕ
bytes_of g shelf name = content (g.files shelf) name

-- ---- a shelf as it was and as it is

-- no count fell
pub record CountsStay {S : Type 0} (g : Ghosts S) (old new : S) : Type 0 where
  pub faults : g.faults old ≤ g.faults new
  pub starved : g.starved old ≤ g.starved new

-- What it tells is as it was, and no count fell.
pub record OnlyReads {S : Type 0} (g : Ghosts S) (old new : S) : Type 0 where
  pub files : g.files new ≡ g.files old
  pub unsealed : g.unsealed new ≡ g.unsealed old
  pub faults : g.faults old ≤ g.faults new
  pub starved : g.starved old ≤ g.starved new

-- a fault is answered only where the count of faults rose
abbrev pub Failed : {S : Type 0} → Ghosts S → S → S → Type 0
Failed g old new = Rose (g.faults old) (g.faults new)

-- want of memory of the shelf is answered only where the count of refused growths rose
abbrev pub Starved : {S : Type 0} → Ghosts S → S → S → Type 0
Starved g old new = Rose (g.starved old) (g.starved new)

-- both
pub record Caused {S T E : Type 0} (g : Ghosts S) (failed no_memory : E) (old new : S) (result : Result T E) : Type 0 where
  pub fault : result ≡ Err failed → Failed g old new
  pub want : result ≡ Err no_memory → Starved g old new

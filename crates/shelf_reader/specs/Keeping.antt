-- A reader as it was and as it is.
use Rattle.std.specs.Prelude.{◌≡◌, ℕ, ◌+◌, ◌<◌, ◌≤◌, List, length, Result, IfErr}
use Rattle.shelf_core.specs.Reads.{Has, OnlyReads, Failed}
use Rattle.shelf_core.specs.declared.shelf.Shelf.{Ghosts}
use Rattle.shelf_reader.specs.Seen.{Seen, seen, Holds}
use Rattle.shelf_reader.specs.declared.error.ReadError.{ReadError}
use Rattle.shelf_reader.specs.declared.error.ReadError.TheVariants as errors
use Rattle.shelf_reader.specs.declared.reader.Reader.{Reader}

-- the bytes of a file of a shelf, where it tells them and they are so many
abbrev pub seen_on : {S : Type 0} → Ghosts S → S → List ℕ → ℕ → Seen
seen_on g shelf name len = seen (g.files shelf) name len

-- the bytes of the reader's file, where the shelf tells them and they are as many as was said
abbrev pub known : {S : Type 0} → Ghosts S → Reader S → Seen
known g reader = seen_on g reader.shelf.now reader.name.now reader.len

-- the file is there, and the window holds what it says
pub record IsReady {S : Type 0} (g : Ghosts S) (reader : Reader S) : Type 0 where
  pub there : Has g reader.shelf.now reader.name.now
  pub holds : Holds (known g reader) reader.from reader.bytes.now.items

-- a fault of the shelf comes only where the count of faults rose, and an early end only with a place below the length
abbrev pub StopsFor : {S F : Type 0} → Ghosts S → ℕ → S → S → ReadError F → Type 0
StopsFor g len old new (errors.Fault fault) = Unit {0}
StopsFor g len old new (errors.Short now) = now < len
StopsFor g len old new errors.Failed = Failed g old new
StopsFor g len old new errors.NoMemory = Unit {0}

-- a fault of the bytes, and no other cause
abbrev pub IsFault : {F : Type 0} → ReadError F → Type 0
IsFault (errors.Fault fault) = Unit {0}
IsFault error = ⊥

-- The same file is read, from the same shelf, of which was only read, and the reader is ready again.
pub record Keeps {S : Type 0} (g : Ghosts S) (old new : Reader S) : Type 0 where
  pub same_shelf : new.shelf.ghost_name ≡ old.shelf.ghost_name
  pub same_buffer : new.bytes.ghost_name ≡ old.bytes.ghost_name
  pub name : new.name ≡ old.name
  pub len : new.len ≡ old.len
  pub known : known g new ≡ known g old
  pub only : OnlyReads g old.shelf.now new.shelf.now
  pub ready : IsReady g new

-- a reading was done, and why it stopped where it did
pub record Reads {S T F : Type 0} (g : Ghosts S) (old new : Reader S) (result : Result T (ReadError F)) : Type 0 where
  pub kept : Keeps g old new
  pub stops : IfErr result (StopsFor g old.len old.shelf.now new.shelf.now)

-- the bytes from one place up to another stand in the window
pub record Shows {S : Type 0} (reader : Reader S) (from to : ℕ) : Type 0 where
  pub low : reader.from ≤ from
  pub high : to ≤ reader.from + length reader.bytes.now.items

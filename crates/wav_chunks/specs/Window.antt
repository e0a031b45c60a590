-- A reader of chunks as it was and as it is.
use Rattle.std.specs.Prelude.{◌≡◌, ℕ, ◌+◌, ◌<◌, ◌≤◌, length, take, Result, IfErr}
use Rattle.shelf_core.specs.Reads.{OnlyReads, Failed, Starved}
use Rattle.shelf_core.specs.Told.{HasFile}
use Rattle.shelf_core.specs.declared.shelf.Shelf.{Ghosts}
use Rattle.shelf_reader.specs.Seen.{Seen, seen, Holds}
use Rattle.shelf_reader.specs.declared.error.ReadError.{ReadError}
use Rattle.shelf_reader.specs.declared.error.ReadError.TheVariants as errors
use Rattle.wav_chunks.specs.declared.reader.Reader.{Reader}

-- the bytes of the reader's file, where the shelf tells them and they are as many as was said
abbrev pub known : {S : Type 0} → Ghosts S → Reader S → Seen
known g reader = seen (g.files reader.shelf.now) reader.name.now reader.len

-- the file is there, and the window has room and holds what it says
pub record IsReady {S : Type 0} (g : Ghosts S) (reader : Reader S) : Type 0 where
  pub there : HasFile (g.files reader.shelf.now) reader.name.now
  pub room : 40 ≤ length reader.window.now
  pub held : reader.held ≤ length reader.window.now
  pub holds : Holds (known g reader) reader.from (take reader.held reader.window.now)

-- A fault of the shelf and want of memory come only where its counts rose, and an early end only with a place below the
-- length.
abbrev pub StopsFor : {S F : Type 0} → Ghosts S → ℕ → S → S → ReadError F → Type 0
StopsFor g len old new (errors.Fault fault) = Unit {0}
StopsFor g len old new (errors.Short now) = now < len
StopsFor g len old new errors.Failed = Failed g old new
StopsFor g len old new errors.NoMemory = Starved g old new

-- a fault of the bytes, and no other cause
abbrev pub IsFault : {F : Type 0} → ReadError F → Type 0
IsFault (errors.Fault fault) = Unit {0}
IsFault error = ⊥

-- The same file is read, from the same shelf, of which was only read, and the reader is ready again.
pub record Keeps {S : Type 0} (g : Ghosts S) (old new : Reader S) : Type 0 where
  pub same_shelf : new.shelf.ghost_name ≡ old.shelf.ghost_name
  pub same_window : new.window.ghost_name ≡ old.window.ghost_name
  pub name : new.name ≡ old.name
  pub len : new.len ≡ old.len
  pub known : known g new ≡ known g old
  pub only : OnlyReads g old.shelf.now new.shelf.now
  pub ready : IsReady g new

-- a reading was done, and why it stopped where it did
pub record Reads {S T F : Type 0} (g : Ghosts S) (old new : Reader S) (result : Result T (ReadError F)) : Type 0 where
  pub kept : Keeps g old new
  pub stops : IfErr result (StopsFor g old.len old.shelf.now new.shelf.now)

-- the bytes from one place up to another stand in the window
pub record Shows {S : Type 0} (reader : Reader S) (from to : ℕ) : Type 0 where
  pub low : reader.from ≤ from
  pub high : to ≤ reader.from + reader.held

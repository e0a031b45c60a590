-- The answer of an outline, by what its shelf tells.
use Rattle.std.specs.Prelude.{◌≡◌, ℕ, ◌<◌, List, length, Result, Ok, Err}
use Rattle.shelf_core.specs.Causes.{Rose}
use Rattle.shelf_core.specs.Reads.{Tells, bytes_of}
use Rattle.shelf_core.specs.declared.shelf.Shelf.{Ghosts}
use Rattle.shelf_reader.specs.declared.error.ReadError.{ReadError}
use Rattle.shelf_reader.specs.declared.error.ReadError.TheVariants as errors
use Rattle.matroska_read.specs.Outline.{places_of}
use Rattle.matroska_read.specs.Places.{Places}
use Rattle.matroska_read.specs.declared.error.OutlineFault.{OutlineFault}
use Rattle.matroska_read.specs.declared.error.OutlineFault.TheVariants as faults
use Rattle.matroska_read.specs.declared.error.OutlineError.{OutlineError}
use Rattle.matroska_read.specs.declared.error.OutlineError.TheVariants.{Shape, Encoded, TrackUnknown, Failed, Short, NoMemory}

-- the error of a reading, as that of an outline
abbrev pub outline_error : ReadError OutlineFault → OutlineError
outline_error (errors.Fault (faults.Shape place)) = Shape place
outline_error (errors.Fault (faults.Encoded track)) = Encoded track
outline_error (errors.Fault (faults.TrackUnknown track)) = TrackUnknown track
outline_error (errors.Short now) = Short now
outline_error errors.Failed = Failed
outline_error errors.NoMemory = NoMemory

-- What a refusal says of an outline of bytes that are known: a fault is its own, and the file doesn't end early.
abbrev pub IsRefusal : {T : Type 0} → Result T OutlineFault → OutlineError → Type 0
IsRefusal outline (Shape place) = outline ≡ Err (faults.Shape place)
IsRefusal outline (Encoded track) = outline ≡ Err (faults.Encoded track)
IsRefusal outline (TrackUnknown track) = outline ≡ Err (faults.TrackUnknown track)
IsRefusal outline (Short now) = ⊥
IsRefusal outline Failed = Unit {0}
IsRefusal outline NoMemory = Unit {0}

-- the shelf failed only where its count of faults rose, and the file ended early only at a place below the length
abbrev pub StopsFor : ℕ → ℕ → ℕ → OutlineError → Type 0
StopsFor len faults faults_now (Shape place) = Unit {0}
StopsFor len faults faults_now (Encoded track) = Unit {0}
StopsFor len faults faults_now (TrackUnknown track) = Unit {0}
StopsFor len faults faults_now (Short now) = now < len
StopsFor len faults faults_now Failed = Rose faults faults_now
StopsFor len faults faults_now NoMemory = Unit {0}

abbrev pub OutlineStops : {S : Type 0} → Ghosts S → ℕ → S → S → OutlineError → Type 0
OutlineStops g len old new = StopsFor len (g.faults old) (g.faults new)

-- the outline is the definition's, where the shelf tells the file and it has so many bytes
abbrev pub OutlinesOn : {S : Type 0} → Ghosts S → S → List ℕ → ℕ → Places → Type 0
OutlinesOn g shelf name len places = Tells g shelf → len ≡ length (bytes_of g shelf name) → places_of (bytes_of g shelf name) ≡ Ok places

-- and so is a refusal
abbrev pub RefusesOn : {S : Type 0} → Ghosts S → S → List ℕ → ℕ → OutlineError → Type 0
RefusesOn g shelf name len error = Tells g shelf → len ≡ length (bytes_of g shelf name) → IsRefusal (places_of (bytes_of g shelf name)) error

-- The answer of a search for the parts of a wave, by what its shelf tells.
use Rattle.std.specs.Prelude.{◌≡◌, ℕ, ◌<◌, List, length, Result, Ok, Err}
use Rattle.shelf_core.specs.Reads.{Tells, bytes_of, Failed, Starved}
use Rattle.shelf_core.specs.declared.shelf.Shelf.{Ghosts}
use Rattle.shelf_reader.specs.declared.error.ReadError.{ReadError}
use Rattle.shelf_reader.specs.declared.error.ReadError.TheVariants as errors
use Rattle.wav_chunks.specs.WaveParts.{wave_of}
use Rattle.wav_chunks.specs.declared.layout.WavLayout.{WavLayout}
use Rattle.wav_chunks.specs.declared.why.WavWhy.{WavWhy}
use Rattle.wav_chunks.specs.declared.why.WavError.{WavError}
use Rattle.wav_chunks.specs.declared.why.WavError.TheVariants as error

-- the error of a reading, as that of a search
abbrev pub wav_error : ReadError WavWhy → WavError
wav_error (errors.Fault why) = error.Why why
wav_error (errors.Short now) = error.Short now
wav_error errors.Failed = error.Failed
wav_error errors.NoMemory = error.NoMemory

-- What a refusal says of bytes that are known: the rule is the first that they break, and the file doesn't end early.
abbrev pub IsRefusal : Result WavLayout WavWhy → WavError → Type 0
IsRefusal found (error.Why why) = found ≡ Err why
IsRefusal found error.Failed = Unit {0}
IsRefusal found error.NoMemory = Unit {0}
IsRefusal found (error.Short now) = ⊥

-- The shelf failed, or was refused memory, only where its count of that rose, and the file ended early only at a place below
-- the length.
abbrev pub FindStops : {S : Type 0} → Ghosts S → ℕ → S → S → WavError → Type 0
FindStops g len old new (error.Why why) = Unit {0}
FindStops g len old new error.Failed = Failed g old new
FindStops g len old new error.NoMemory = Starved g old new
FindStops g len old new (error.Short now) = now < len

-- the layout is the definition's, where the shelf tells the file and it has so many bytes
abbrev pub FindsOn : {S : Type 0} → Ghosts S → S → List ℕ → ℕ → WavLayout → Type 0
FindsOn g shelf name len layout = Tells g shelf → len ≡ length (bytes_of g shelf name) → wave_of (bytes_of g shelf name) ≡ Ok layout

-- and so is a refusal
abbrev pub RefusesOn : {S : Type 0} → Ghosts S → S → List ℕ → ℕ → WavError → Type 0
RefusesOn g shelf name len error = Tells g shelf → len ≡ length (bytes_of g shelf name) → IsRefusal (wave_of (bytes_of g shelf name)) error

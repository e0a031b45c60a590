-- Laws of a window that is lent, and of a reader that is kept from call to call.
use Rattle.std.proofs.Common.{◌≡◌, ℕ, ◌+◌, ◌-◌, ◌≤◌, List, ◌++◌, length, take, drop, Result, Ok, Err, IfErr, sym, ◌∙◌, ap, subst, arith}
use Rattle.std.proofs.lemmas.List.{length-take-le, take-take, take_at, drop-take}
use Rattle.shelf_core.specs.declared.shelf.Shelf.{Ghosts}
use Rattle.shelf_reader.specs.Seen.{Seen, Sees, Holds, between}
use Rattle.shelf_reader.specs.declared.error.ReadError.{ReadError}
use Rattle.shelf_reader.specs.declared.error.ReadError.TheVariants as errors
use Rattle.shelf_reader.specs.KeepingLaws.{Only-twice}
use Rattle.shelf_reader.specs.SeenLaws.{Sees-part}
use Rattle.wav_chunks.specs.declared.reader.Reader.{Reader}
use Rattle.wav_chunks.specs.Window.{Keeps, Reads, IsFault, StopsFor}

-- a part of what the window holds
part_of : (start count held : ℕ) (window : List ℕ) → start + count ≤ held → take count (drop start (take held window)) ≡ take count (drop start window)
part_of start count held window within =
    let split : held ≡ start + (held - start) = omega (arith, within) in
    ap (λ (n : ℕ). take count (drop start (take n window))) split
    ∙ ap (λ xs. take count xs) (drop-take start (held - start) window)
    ∙ take-take count (held - start) (drop start window) (omega (arith, within))

-- it is the file's
pub Sees-window : (known : Seen) (from place to held : ℕ) (window part : List ℕ) → Holds known from (take held window) → held ≤ length window → from ≤ place → place ≤ to → to ≤ from + held
    → part ≡ take (to - place) (drop (place - from) window) → Sees known (between place to) part
Sees-window known from place to held window part holds room low before high is =
    let long : length (take held window) ≡ held = length-take-le held window room in
    Sees-part known from place to (take held window) part holds low before (omega (arith, high, long))
    (is ∙ sym (part_of (place - from) (to - place) held window (omega (arith, low, before, high))))

-- the window holds a piece that was read into its front
pub Holds-front : (known : Seen) (at count : ℕ) (piece rest : List ℕ) → Holds known at piece → length piece ≡ count → Holds known at (take count (piece ++ rest))
Holds-front known at count piece rest holds long = subst (Holds known at) (sym (take_at piece rest count long)) holds

pub ruleset window_laws = (Sees-window, Holds-front)

-- ---- a reader that is kept

pub Keeps-twice : {S : Type 0} (g : Ghosts S) (old between new : Reader S) → Keeps g old between → Keeps g between new → Keeps g old new
Keeps-twice g old between new first second = record {
  same_shelf = second.same_shelf ∙ first.same_shelf;
  same_window = second.same_window ∙ first.same_window;
  name = second.name ∙ first.name;
  len = second.len ∙ first.len;
  known = second.known ∙ first.known;
  only = Only-twice g _ _ _ first.only second.only;
  ready = second.ready;
}

stops-fault : {S F : Type 0} (g : Ghosts S) (len : ℕ) (old new : S) (error : ReadError F) → IsFault error → StopsFor g len old new error
stops-fault g len old new (errors.Fault fault) is = tt
stops-fault g len old new error is = absurd is

-- a reader that is kept, where only the bytes may be at fault
pub Reads-fault : {S T F : Type 0} (g : Ghosts S) (old new : Reader S) (result : Result T (ReadError F)) → Keeps g old new → IfErr result IsFault → Reads g old new result
Reads-fault g old new (Ok value) kept fault = record { kept = kept; stops = tt }
Reads-fault g old new (Err error) kept fault = record { kept = kept; stops = stops-fault g old.len old.shelf.now new.shelf.now error fault }

pub ruleset keeping_laws = (Only-twice, Keeps-twice, Reads-fault)

-- Laws of a reader that is kept from call to call.
use Rattle.std.proofs.Common.{◌≡◌, ◌≤◌, ℕ, Result, Ok, Err, IfErr, refl, ◌∙◌, arith}
use Rattle.shelf_core.specs.Reads.{OnlyReads}
use Rattle.shelf_core.specs.declared.shelf.Shelf.{Ghosts}
use Rattle.shelf_reader.specs.declared.reader.Reader.{Reader}
use Rattle.shelf_reader.specs.Keeping.{Keeps, Reads, IsReady, IsFault, StopsFor}
use Rattle.shelf_reader.specs.declared.error.ReadError.{ReadError}
use Rattle.shelf_reader.specs.declared.error.ReadError.TheVariants as errors

pub Only-twice : {S : Type 0} (g : Ghosts S) (old between new : S) → OnlyReads g old between → OnlyReads g between new → OnlyReads g old new
Only-twice g old between new first second = record {
  files = second.files ∙ first.files;
  unsealed = second.unsealed ∙ first.unsealed;
  faults = omega (arith, first.faults, second.faults);
  starved = omega (arith, first.starved, second.starved);
}

pub Keeps-twice : {S : Type 0} (g : Ghosts S) (old between new : Reader S) → Keeps g old between → Keeps g between new → Keeps g old new
Keeps-twice g old between new first second = record {
  same_shelf = second.same_shelf ∙ first.same_shelf;
  same_buffer = second.same_buffer ∙ first.same_buffer;
  name = second.name ∙ first.name;
  len = second.len ∙ first.len;
  known = second.known ∙ first.known;
  only = Only-twice g _ _ _ first.only second.only;
  ready = second.ready;
}

stops-fault : {S F : Type 0} (g : Ghosts S) (len : ℕ) (old new : S) (error : ReadError F) → IsFault error → StopsFor g len old new error
stops-fault g len old new (errors.Fault fault) is = tt
stops-fault g len old new error is = absurd is

-- a reader that is kept, where only the bytes may be at fault
pub Reads-fault : {S T F : Type 0} (g : Ghosts S) (old new : Reader S) (result : Result T (ReadError F)) → Keeps g old new → IfErr result IsFault → Reads g old new result
Reads-fault g old new (Ok value) kept fault = record { kept = kept; stops = tt }
Reads-fault g old new (Err error) kept fault = record { kept = kept; stops = stops-fault g old.len old.shelf.now new.shelf.now error fault }

pub ruleset keeping_laws = (Only-twice, Keeps-twice, Reads-fault)

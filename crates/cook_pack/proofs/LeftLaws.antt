-- What stands after pack was stopped, and why.
use Rattle.std.proofs.Common.{◌≡◌, inr, ℕ, ◌≤◌, List, [], length, take, Err, refl, sym, ap, ◌∙◌, arith}
use Rattle.std.proofs.Math.Seq.{take-length}
use Rattle.cook_bits.specs.Names.{File}
use Rattle.shelf_core.specs.Causes.{HasCause}
use Rattle.shelf_core.specs.Reads.{Tells}
use Rattle.shelf_core.specs.Told.{grown, with_file}
use Rattle.shelf_core.specs.Writes.{Created, Grew, GrewInPart}
use Rattle.shelf_core.specs.declared.shelf.Shelf.{Ghosts}
use Rattle.shelf_core.specs.declared.shelf.ShelfError.{ShelfError}
use Rattle.shelf_core.specs.declared.shelf.ShelfError.TheVariants as shelf
use Rattle.shelf_core.specs.FileLaws.{grown-with_file}
use Rattle.cook_pack.specs.Package.{package_of}
use Rattle.cook_pack.specs.Planned.{Planned}
use Rattle.cook_pack.specs.Stops.{IsLeft, StopsFor, LeavesFor, IsNotPacked, pack_error}
use Rattle.cook_pack.specs.declared.error.PackError.{PackError}
use Rattle.cook_pack.specs.declared.error.PackError.TheVariants.{Refused, InTheWay, Changed, Missing, Failed, NoMemory}

-- a created file that grew is one file more
pub grown-created : {S : Type 0} (g : Ghosts S) (old created new : S) (pkg bytes : List ℕ) → Created g old created pkg → g.files new ≡ grown (g.files created) pkg bytes → g.files new ≡ with_file (g.files old) pkg bytes
grown-created g old created new pkg bytes is grew = grew ∙ ap (λ t. grown t pkg bytes) is.files ∙ grown-with_file (g.files old) pkg [] bytes

-- the package stands in part
pub left_part : {S : Type 0} (g : Ghosts S) (old created new : S) (pkg : List ℕ) (directory : List File) (rate : ℕ) → Created g old created pkg → GrewInPart g created new pkg (package_of directory rate) → IsLeft g old new pkg directory rate
left_part g old created new pkg directory rate is part = record {
  free = is.free;
  bytes = take part.files.count (package_of directory rate);
  leaving = record { count = part.files.count; within = part.files.within; is = refl };
  files = grown-created g old created new pkg _ is part.files.is;
  unsealed = part.unsealed ∙ is.unsealed;
}

-- or whole
pub left_whole : {S : Type 0} (g : Ghosts S) (old created between new : S) (pkg : List ℕ) (directory : List File) (rate : ℕ) → Created g old created pkg → Grew g created between pkg (package_of directory rate)
    → g.files new ≡ g.files between → g.unsealed new ≡ g.unsealed between → IsLeft g old new pkg directory rate
left_whole g old created between new pkg directory rate is grew files unsealed = record {
  free = is.free;
  bytes = package_of directory rate;
  leaving = record { count = length (package_of directory rate); within = omega arith; is = sym (take-length (package_of directory rate)) };
  files = files ∙ grown-created g old created between pkg _ is grew.files;
  unsealed = unsealed ∙ grew.unsealed ∙ is.unsealed;
}

pub left_stopped : {S : Type 0} (g : Ghosts S) (old created new : S) (plan : Planned) (pkg : List ℕ) (directory : List File) (rate : ℕ) (error : PackError) → StopsFor g created new plan error
    → IsLeft g old new pkg directory rate → LeavesFor g old new pkg directory rate error
left_stopped g old created new plan pkg directory rate (Changed name was now) why left = inr left
left_stopped g old created new plan pkg directory rate Failed why left = inr left
left_stopped g old created new plan pkg directory rate NoMemory why left = inr left
left_stopped g old created new plan pkg directory rate (Refused name reason) why left = why
left_stopped g old created new plan pkg directory rate (InTheWay name) why left = absurd why
left_stopped g old created new plan pkg directory rate (Missing name) why left = why

pub left_shelf : {S : Type 0} (g : Ghosts S) (old new : S) (pkg : List ℕ) (directory : List File) (rate : ℕ) (error : ShelfError) → IsLeft g old new pkg directory rate → LeavesFor g old new pkg directory rate (pack_error error)
left_shelf g old new pkg directory rate shelf.Failed left = inr left
left_shelf g old new pkg directory rate shelf.NoMemory left = inr left

pub cause_shelf : {S T : Type 0} (g : Ghosts S) (old between new : S) (plan : Planned) (error : ShelfError) → g.faults old ≤ g.faults between
    → HasCause {T = T} shelf.Failed shelf.NoMemory (g.faults between) (g.faults new) (g.starved between) (g.starved new) (Err error) → IsNotPacked g old new plan (pack_error error)
cause_shelf g old between new plan shelf.Failed fell cause = let rose = cause.fault refl in omega (arith, rose, fell)
cause_shelf g old between new plan shelf.NoMemory fell cause = tt

pub cause_stopped : {S : Type 0} (g : Ghosts S) (old created new : S) (plan : Planned) (error : PackError) → (Tells g old → Tells g created) → g.faults old ≤ g.faults created → StopsFor g created new plan error → IsNotPacked g old new plan error
cause_stopped g old created new plan (Changed name was now) known fell why = record { untold = λ k. why.untold (known k); planned = why.planned; fewer = why.fewer }
cause_stopped g old created new plan Failed known fell why = omega arith
cause_stopped g old created new plan NoMemory known fell why = tt
cause_stopped g old created new plan (Refused name reason) known fell why = why
cause_stopped g old created new plan (InTheWay name) known fell why = tt
cause_stopped g old created new plan (Missing name) known fell why = why

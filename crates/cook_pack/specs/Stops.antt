-- Why the writing of a package stops, and what shows it.
use Rattle.std.specs.Prelude.{◌≡◌, ◌⊎◌, ℕ, ◌<◌, List}
use Rattle.cook_bits.specs.Names.{File}
use Rattle.shelf_core.specs.Causes.{Rose}
use Rattle.shelf_core.specs.Reads.{Tells}
use Rattle.shelf_core.specs.Told.{HasFile, IsFree, with_file, with_unsealed}
use Rattle.shelf_core.specs.Writes.{Unchanged}
use Rattle.shelf_core.specs.declared.shelf.Shelf.{Ghosts}
use Rattle.shelf_core.specs.declared.shelf.ShelfError.{ShelfError}
use Rattle.shelf_core.specs.declared.shelf.ShelfError.TheVariants as shelf
use Rattle.shelf_core.specs.declared.pieces.PieceError.{PieceError}
use Rattle.shelf_core.specs.declared.pieces.PieceError.TheVariants as piece
use Rattle.shelf_core.specs.declared.shelf.CreateError.{CreateError}
use Rattle.shelf_core.specs.declared.shelf.CreateError.TheVariants as create
use Rattle.cook_pack.specs.Package.{IsLeaving}
use Rattle.cook_pack.specs.Planned.{Planned, IsInPlan}
use Rattle.cook_pack.specs.declared.error.PackError.{PackError}
use Rattle.cook_pack.specs.declared.error.PackError.TheVariants.{Refused, InTheWay, Changed, Missing, Failed, NoMemory}

-- a shelf's error as that of pack
abbrev pub pack_error : ShelfError → PackError
pack_error shelf.Failed = Failed
pack_error shelf.NoMemory = NoMemory

-- ---- causes

-- a file of a plan gave fewer bytes than the plan says, which no shelf does that tells its files
pub record FellShort {S : Type 0} (g : Ghosts S) (old : S) (plan : Planned) (name : List ℕ) (was now : ℕ) : Type 0 where
  pub untold : Tells g old → ⊥
  pub planned : IsInPlan plan name was
  pub fewer : now < was

-- A file fell short of its plan; or the count of faults rose; or no memory was left.
abbrev pub StopsFor : {S : Type 0} → Ghosts S → S → S → Planned → PackError → Type 0
StopsFor g old new plan (Changed name was now) = FellShort g old plan name was now
StopsFor g old new plan Failed = Rose (g.faults old) (g.faults new)
StopsFor g old new plan NoMemory = Unit {0}
StopsFor g old new plan (Refused name why) = ⊥
StopsFor g old new plan (InTheWay name) = ⊥
StopsFor g old new plan (Missing name) = ⊥

-- the causes of pack's answers: as those of the writing, but that the name may be there
abbrev pub IsNotPacked : {S : Type 0} → Ghosts S → S → S → Planned → PackError → Type 0
IsNotPacked g old new plan (InTheWay name) = Unit {0}
IsNotPacked g old new plan (Changed name was now) = FellShort g old plan name was now
IsNotPacked g old new plan Failed = Rose (g.faults old) (g.faults new)
IsNotPacked g old new plan NoMemory = Unit {0}
IsNotPacked g old new plan (Refused name why) = ⊥
IsNotPacked g old new plan (Missing name) = ⊥

-- what pack answers where a file of that name and so many bytes was not copied whole
abbrev pub StopsFrom : List ℕ → ℕ → PieceError → PackError → Type 0
StopsFrom name was (piece.Short at) (Changed changed before now) = (changed ≡ name) × (before ≡ was) × (now ≡ at)
StopsFrom name was piece.Failed Failed = Unit {0}
StopsFrom name was piece.NoMemory NoMemory = Unit {0}
StopsFrom name was (piece.Short at) NoMemory = Unit {0}
StopsFrom name was error answer = ⊥

-- what pack answers where its package was not created
abbrev pub NotCreated : List ℕ → CreateError → PackError → Type 0
NotCreated pkg create.Exists (InTheWay name) = name ≡ pkg
NotCreated pkg create.Exists NoMemory = Unit {0}
NotCreated pkg create.Failed Failed = Unit {0}
NotCreated pkg create.NoMemory NoMemory = Unit {0}
NotCreated pkg error answer = ⊥

-- ---- what stands

-- the package's name is there already, and nothing was changed
pub record IsInTheWay {S : Type 0} (g : Ghosts S) (old new : S) (pkg name : List ℕ) : Type 0 where
  pub named : name ≡ pkg
  pub there : HasFile (g.files old) pkg
  pub kept : Unchanged g old new

-- the package's name was free, and the package stands unsealed, with what a stopped pack leaves
pub record IsLeft {S : Type 0} (g : Ghosts S) (old new : S) (pkg : List ℕ) (directory : List File) (rate : ℕ) : Type 0 where
  pub free : IsFree (g.files old) pkg
  pub bytes : List ℕ
  pub leaving : IsLeaving directory rate bytes
  pub files : g.files new ≡ with_file (g.files old) pkg bytes
  pub unsealed : g.unsealed new ≡ with_unsealed (g.unsealed old) pkg

-- nothing was changed, or the package stands unsealed
abbrev pub Leaves : {S : Type 0} → Ghosts S → S → S → List ℕ → List File → ℕ → Type 0
Leaves g old new pkg directory rate = Unchanged g old new ⊎ IsLeft g old new pkg directory rate

-- Why a package was not written whole and sealed, and what stands then.
abbrev pub LeavesFor : {S : Type 0} → Ghosts S → S → S → List ℕ → List File → ℕ → PackError → Type 0
LeavesFor g old new pkg directory rate (InTheWay name) = IsInTheWay g old new pkg name
LeavesFor g old new pkg directory rate (Changed name was now) = Leaves g old new pkg directory rate
LeavesFor g old new pkg directory rate Failed = Leaves g old new pkg directory rate
LeavesFor g old new pkg directory rate NoMemory = Leaves g old new pkg directory rate
LeavesFor g old new pkg directory rate (Refused name why) = ⊥
LeavesFor g old new pkg directory rate (Missing name) = ⊥

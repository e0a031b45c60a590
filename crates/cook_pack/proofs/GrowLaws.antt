-- Laws of a file that grows on a shelf in several calls.
use Rattle.std.proofs.Common.{◌≡◌, ℕ, List, ◌++◌, length, refl, sym, ap, ◌∙◌, subst, arith, Result, Ok, Err, OnErr}
use Rattle.std.proofs.Math.Seq.{take-length}
use Rattle.shelf_core.specs.Reads.{Tells, Has}
use Rattle.shelf_core.specs.Told.{HasFile, grown}
use Rattle.shelf_core.specs.Writes.{Grew, GrewInPart}
use Rattle.shelf_core.specs.declared.shelf.Shelf.{Ghosts}
use Rattle.shelf_core.specs.FileLaws.{HasFile-with_file}
use Rattle.shelf_core.specs.PieceLaws.{GrewPartly-nothing, GrewPartly-first, GrewPartly-second, grown-both, IsTold-while_grown}

-- what holds anyway holds at an error
pub on_err : {T E P : Type 0} (r : Result T E) → P → OnErr r P
on_err (Ok x) holds = tt
on_err (Err e) holds = holds

-- nothing was added
pub GrewInPart-nothing : {S : Type 0} (g : Ghosts S) (shelf : S) (to whole : List ℕ) → Has g shelf to → GrewInPart g shelf shelf to whole
GrewInPart-nothing g shelf to whole there = record {
  files = GrewPartly-nothing _ _ to whole there refl;
  unsealed = refl;
  faults = omega arith;
  starved = omega arith;
}

-- all was added
pub GrewInPart-whole : {S : Type 0} (g : Ghosts S) (old new : S) (to whole : List ℕ) → Grew g old new to whole → GrewInPart g old new to whole
GrewInPart-whole g old new to whole grew = record {
  files = record { count = length whole; within = omega arith; is = grew.files ∙ ap (grown (g.files old) to) (sym (take-length whole)) };
  unsealed = grew.unsealed;
  faults = grew.faults;
  starved = grew.starved;
}

-- both of two pieces were added
pub Grew-both : {S : Type 0} (g : Ghosts S) (old between new : S) (to whole a b : List ℕ) → Grew g old between to a → Grew g between new to b → (Tells g old → a ++ b ≡ whole) → Grew g old new to whole
Grew-both g old between new to whole a b first second same = record {
  files = grown-both _ _ _ to whole a b first.files second.files same;
  unsealed = second.unsealed ∙ first.unsealed;
  faults = omega (arith, first.faults, second.faults);
  starved = omega (arith, first.starved, second.starved);
}

-- the adding stopped in the first of two pieces
pub GrewInPart-first : {S : Type 0} (g : Ghosts S) (old new : S) (to whole a b : List ℕ) → (Tells g old → a ++ b ≡ whole) → GrewInPart g old new to a → GrewInPart g old new to whole
GrewInPart-first g old new to whole a b same part = record {
  files = GrewPartly-first _ _ to whole a b same part.files;
  unsealed = part.unsealed;
  faults = part.faults;
  starved = part.starved;
}

-- or in the second
pub GrewInPart-second : {S : Type 0} (g : Ghosts S) (old between new : S) (to whole a b : List ℕ) → Grew g old between to a → (Tells g old → a ++ b ≡ whole) → GrewInPart g between new to b → GrewInPart g old new to whole
GrewInPart-second g old between new to whole a b first same part = record {
  files = GrewPartly-second _ _ _ to whole a b first.files same part.files;
  unsealed = part.unsealed ∙ first.unsealed;
  faults = omega (arith, first.faults, part.faults);
  starved = omega (arith, first.starved, part.starved);
}

-- it stopped between the two
pub GrewInPart-between : {S : Type 0} (g : Ghosts S) (old new : S) (to whole a b : List ℕ) → Grew g old new to a → (Tells g old → a ++ b ≡ whole) → GrewInPart g old new to whole
GrewInPart-between g old new to whole a b first same = GrewInPart-first g old new to whole a b same (GrewInPart-whole g old new to a first)

pub Tells-while_grown : {S : Type 0} (g : Ghosts S) (old new : S) (to added : List ℕ) → Grew g old new to added → Tells g old → Tells g new
Tells-while_grown g old new to added grew known = IsTold-while_grown _ _ to added grew.files known

pub Has-while_grown : {S : Type 0} (g : Ghosts S) (old new : S) (to added other : List ℕ) → Grew g old new to added → Has g old other → Has g new other
Has-while_grown g old new to added other grew there = subst (λ t. HasFile t other) (sym grew.files) (HasFile-with_file (g.files old) to _ other there)

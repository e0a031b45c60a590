-- A sink as it was and as it is.
use Rattle.std.specs.Prelude.{◌≡◌, ◌≤◌, ℕ, List}
use Rattle.shelf_core.specs.Causes.{Rose}
use Rattle.shelf_core.specs.Report.{with_text, WrittenPartly}
use Rattle.shelf_core.specs.declared.sink.Sink.{Ghosts}

-- a text was written
abbrev pub Printed : {O : Type 0} → Ghosts O → O → O → List ℕ → Type 0
Printed h old new text = h.written new ≡ with_text (h.written old) text

-- a front of it was
abbrev pub PrintedInPart : {O : Type 0} → Ghosts O → O → O → List ℕ → Type 0
PrintedInPart h old new text = WrittenPartly (h.written old) text (h.written new)

-- the count of faults did not fall
abbrev pub FaultsStay : {O : Type 0} → Ghosts O → O → O → Type 0
FaultsStay h old new = h.faults old ≤ h.faults new

-- it rose
abbrev pub FaultsRose : {O : Type 0} → Ghosts O → O → O → Type 0
FaultsRose h old new = Rose (h.faults old) (h.faults new)

-- Readings of a list of bytes: each gives a value, or the first fault. They are put together before the bytes are there, so
-- that a definition has the shape of the code that follows it.
use Rattle.std.specs.Prelude.{◌≡◌, ℕ, List, Some, None, Result, Ok, Err}
use Rattle.shelf_reader.specs.Seen.{Seen, Sees, IsUnseen}
use Rattle.shelf_reader.specs.declared.error.ReadError.{ReadError}
use Rattle.shelf_reader.specs.declared.error.ReadError.TheVariants.{Fault, Failed, Short, NoMemory}

abbrev pub Reading : Type 0 → Type 0 → Type 0
Reading T F = List ℕ → Result T F

-- a value, whatever the bytes are
unfoldable pub gives : {T F : Type 0} → T → Reading T F
gives value bytes = Ok value

-- a fault, whatever the bytes are
unfoldable pub fails : {T F : Type 0} → F → Reading T F
fails fault bytes = Err fault

-- a reading that goes on by what a function of the bytes gives
unfoldable pub looks : {A T F : Type 0} → (List ℕ → A) → (A → Reading T F) → Reading T F
looks seen next bytes = next (seen bytes) bytes

-- what a function of the bytes gives, as a reading
unfoldable pub answers : {T F : Type 0} → (List ℕ → T) → Reading T F
answers seen bytes = Ok (seen bytes)

unfoldable pub thence_of : {A T F : Type 0} → Result A F → (A → Reading T F) → Reading T F
thence_of (Ok value) next bytes = next value bytes
thence_of (Err fault) next bytes = Err fault

-- a reading that goes on after another, by what that one gave; a fault of the first is the fault of both
unfoldable pub thence : {A T F : Type 0} → Reading A F → (A → Reading T F) → Reading T F
thence first next bytes = thence_of (first bytes) next bytes

-- A result answers a reading: a value is the reading's, a fault is the reading's own, and a file that is known doesn't end
-- early.
unfoldable pub Answers : {T F : Type 0} → Seen → Reading T F → Result T (ReadError F) → Type 0
Answers known reading (Ok value) = Sees known reading (Ok value)
Answers known reading (Err (Fault fault)) = Sees known reading (Err fault)
Answers known reading (Err (Short now)) = IsUnseen known
Answers known reading (Err Failed) = Unit {0}
Answers known reading (Err NoMemory) = Unit {0}

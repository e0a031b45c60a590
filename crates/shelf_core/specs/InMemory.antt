-- What the calls of a shelf in memory answer, by its store as it was and as it is.
use Rattle.std.specs.Prelude.{◌≡◌, ℕ, ◌/◌, List, length, take, Result}
use Rattle.shelf_core.specs.Causes.{HasCause, Rose}
use Rattle.shelf_core.specs.Listing.{plain_entries}
use Rattle.shelf_core.specs.StoreOf.{told_files}
use Rattle.shelf_core.specs.Told.{IsTold, IsRead, content, grown, under}
use Rattle.shelf_core.specs.declared.mem_shelf.MemShelf.{MemShelf}
use Rattle.shelf_core.specs.declared.shelf.Entry.{Entry}
use Rattle.shelf_core.specs.declared.store.Store.{Store}

-- a listing gives what stands under a root
abbrev pub Lists : Store → List ℕ → List Entry → Type 0
Lists store root entries = IsTold (told_files store) → entries ≡ plain_entries (under (told_files store) root)

-- a read from a place gives so many bytes of a file
abbrev pub ReadsFrom : Store → List ℕ → ℕ → ℕ → List ℕ → ℕ → Type 0
ReadsFrom store name at room buffer count = IsTold (told_files store) → IsRead (content (told_files store) name) at room buffer count

-- the first half of the bytes was added, unless a growth was refused
abbrev pub GrewByHalf : Store → Store → List ℕ → List ℕ → Type 0
GrewByHalf old new name bytes = (Rose old.starved new.starved → ⊥) → told_files new ≡ grown (told_files old) name (take (length bytes / 2) bytes)

-- a refusal has its cause in a count of the shelf
abbrev pub Caused : {T E : Type 0} → E → E → MemShelf → MemShelf → Result T E → Type 0
Caused failed no_memory old new result = HasCause failed no_memory old.calls.faults new.calls.faults old.store.starved new.store.starved result

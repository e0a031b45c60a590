-- What holds of all files that are told.
use Rattle.std.specs.Prelude.{ℕ, List, All}
use Rattle.cook_bits.specs.Bits.{AreBytes}
use Rattle.shelf_core.specs.Told.{Told, HoldsBytes, under}

-- what is told under a root has contents of bytes, where all contents are bytes
abbrev pub ContentsUnderAreBytes : Type 0
ContentsUnderAreBytes = (told : Told) (root : List ℕ) → HoldsBytes told → All (λ file. AreBytes file.1) (under told root)

-- A listing on its way: what one thing that was met adds to it.
use Rattle.std.specs.Prelude.{◌≡◌, ◌↔◌, ℕ, Bool, IsTrue, List, [], ◌∷◌, ◌++◌}
use Rattle.std.specs.Fs.{IsFile}
use Rattle.std.specs.declared.fs.attrs.FileType.{FileType}
use Rattle.shelf_core.specs.declared.shelf.Entry.{Entry}
use Rattle.cook_bits.specs.Names.{full_name}

-- the name below the root of what stands in a folder, which is empty for the root itself
abbrev pub name_below : List ℕ → List ℕ → List ℕ
name_below [] name = name
name_below (byte ∷ folder) name = full_name (byte ∷ folder) name

-- a thing was listed last, plain exactly where it is a file itself
pub record IsListedLast (kind : FileType) (name : List ℕ) (before after : List Entry) : Type 0 where
  pub plain : Bool
  pub is_file : IsTrue plain ↔ IsFile kind
  pub is : after ≡ before ++ record { name = name; plain = plain } ∷ []

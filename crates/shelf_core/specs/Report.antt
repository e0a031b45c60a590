-- What a sink tells of the bytes that it holds: all of them, or nothing.
use Rattle.std.specs.Prelude.{◌≡◌, ℕ, ◌≤◌, List, ◌++◌, length, take, Option, Some, None}

abbrev pub Text : Type 0
Text = Option (List ℕ)

unfoldable pub with_text : Text → List ℕ → Text
with_text None bytes = None
with_text (Some held) bytes = Some (held ++ bytes)

-- the first bytes of some were added at the end
pub record WrittenPartly (before : Text) (bytes : List ℕ) (after : Text) : Type 0 where
  pub count : ℕ
  pub within : count ≤ length bytes
  pub is : after ≡ with_text before (take count bytes)

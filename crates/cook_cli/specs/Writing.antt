-- The files that are being written.
use Rattle.std.specs.Prelude.{◌≡◌, ℕ, List, Any, string_bytes}
use Rattle.cook_cli.specs.declared.unsealed.Unsealed.{Unsealed}

-- one of the files was opened by this name
abbrev pub IsWriting : List Unsealed → List ℕ → Type 0
IsWriting files name = Any (λ file. string_bytes file.open.name ≡ name) files

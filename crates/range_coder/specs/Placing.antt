-- Numbers placed among the states of many sets, as one list of choices.
use Rattle.std.specs.Prelude.{ℕ, ◌+◌, ◌≤◌, Bool, List, All}
use Rattle.std.specs.List.{flat_map}
use Rattle.range_coder.specs.declared.symbol.Placed.{Placed}
use Rattle.range_coder.specs.Choices.{Choice, moved}
use Rattle.range_coder.specs.Symbol.{IsCodable, symbol_choices}

-- a number with the set that begins at its first slot
abbrev pub placed_symbol : Bool → Placed → List Choice
placed_symbol signed p = moved p.first (symbol_choices p.value signed)

-- numbers one after another
abbrev pub placed_symbols : Bool → List Placed → List Choice
placed_symbols signed symbols = flat_map (placed_symbol signed) symbols

-- the number can be coded, and its set stands among so many states
pub record IsPlaced (slots : ℕ) (signed : Bool) (p : Placed) : Type 0 where
  pub within : p.first + 32 ≤ slots
  pub codable : IsCodable p.value signed

-- so of each
pub record ArePlaced (slots : ℕ) (signed : Bool) (symbols : List Placed) : Type 0 where
  pub each : All (IsPlaced slots signed) symbols

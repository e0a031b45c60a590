-- Lines of samples as the code holds them: three lines of a plane, each with its borders.
use Rattle.std.specs.Prelude.{◌≡◌, ℕ, ◌+◌, ◌<◌, ◌≤◌, List, length, slice_index, slice_index_or, ℤ}
use Rattle.std.specs.Int.{is_negative}
use Rattle.range_coder.specs.declared.symbol.Placed.{Placed}
use Rattle.range_coder.specs.Choices.{Choice}
use Rattle.ffv1_slice.specs.declared.around.Around.{Around}
use Rattle.ffv1_slice.specs.Plane.{cell, around, prediction, context, difference, slot_in, sample_choices, IsSample, joined, Joins}

-- a line of a plane with its borders
pub record HoldsLine (width : ℕ) (plane : ℕ → ℕ → ℕ) (line : ℕ) (list : List ℕ) : Type 0 where
  pub each : (place : ℕ) → place < width + 3 → slice_index list place ≡ cell width plane line place

-- the sets of states of all contexts stand among so many
pub record AreSlots (values : List ℤ) (first slots : ℕ) : Type 0 where
  pub long : length values ≡ 1280
  pub within : (a : Around) → slot_in first (context values a) + 32 ≤ slots
  pub few : slots ≤ 2097185

-- around a place of the last of three lines
abbrev pub around_lines : List ℕ → List ℕ → List ℕ → ℕ → Around
around_lines above2 above line x = around (slice_index above2) (slice_index above) (slice_index line) x

-- the difference of a sample and the states it is coded with
abbrev pub placed_sample : ℕ → List ℤ → ℕ → Around → ℕ → Placed
placed_sample half values first a sample =
    record { first = slot_in first (context values a); value = difference half (is_negative (context values a)) (prediction a) sample }

-- the differences of the first samples of a line
pub record ArePlacedSamples (half : ℕ) (values : List ℤ) (first : ℕ) (above2 above line : List ℕ) (symbols : List Placed) (count : ℕ) : Type 0 where
  pub each : (k : ℕ) (d : Placed) → k < count → slice_index_or symbols k d ≡ placed_sample half values first (around_lines above2 above line k) (slice_index line (k + 2))

abbrev pub choices_of_line : ℕ → List ℤ → ℕ → List ℕ → List ℕ → List ℕ → ℕ → List Choice
choices_of_line half values first above2 above line width =
    joined width (λ x. sample_choices half values first (around_lines above2 above line x) (slice_index line (x + 2)))

-- choices that are read as the first samples of a line
abbrev pub IsLineRead : ℕ → List ℤ → ℕ → List ℕ → List ℕ → List ℕ → ℕ → List Choice → Type 0
IsLineRead half values first above2 above line count choices =
    Joins count (λ x. IsSample half values first (around_lines above2 above line x) (slice_index line (x + 2))) choices

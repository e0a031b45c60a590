-- Tiles of a buffer: the places from one bound to the next. Nothing is said of shares or of threads.
use Rattle.std.specs.Prelude.{◌≡◌, ℕ, ◌+◌, ◌-◌, ◌<◌, ◌≤◌, List, length, take, drop, get_or}

-- a bound
abbrev pub bound : List ℕ → ℕ → ℕ
bound bounds k = get_or bounds k 0

-- the tile under a number: the places from its bound to the next
abbrev pub tile_of : List ℕ → ℕ → List ℕ → List ℕ
tile_of bounds k buffer = take (bound bounds (k + 1) - bound bounds k) (drop (bound bounds k) buffer)

abbrev pub IsAscending : List ℕ → Type 0
IsAscending bounds = (i j : ℕ) → i ≤ j → j < length bounds → bound bounds i ≤ bound bounds j

-- bounds of so many tiles of a buffer of so many places
pub record AreBounds (bounds : List ℕ) (len count : ℕ) : Type 0 where
  pub size : length bounds ≡ count + 1
  pub first : bound bounds 0 ≡ 0
  pub last : bound bounds count ≡ len
  pub ascending : IsAscending bounds

-- each tile of so many is one that may be taken under its number
abbrev pub AreTaken : (ℕ → List ℕ → Type 0) → List ℕ → ℕ → List ℕ → Type 0
AreTaken Takes bounds count buffer = (k : ℕ) → k < count → Takes k (tile_of bounds k buffer)

-- each tile stands with what it was before and with its answer in the relation for its number
abbrev pub AreDone : {A : Type 0} → (ℕ → List ℕ → List ℕ → A → Type 0) → List ℕ → List ℕ → List ℕ → List A → Type 0
AreDone {A} Does bounds old new answers =
    (k : ℕ) (d : A) → k < length answers → Does k (tile_of bounds k old) (tile_of bounds k new) (get_or answers k d)

-- The one of a list that costs least, the first of these on a tie.
use Rattle.std.specs.Prelude.{◌≡◌, ℕ, ◌<◌, ◌≤◌, nat_lt, if◌then◌else◌, List, [], ◌∷◌, length, slice_index_or, Option, Some, None}

-- one that stands before the least of those behind it
unfoldable pub kept : {A : Type 0} → (A → ℕ) → A → Option A → A
kept cost first None = first
kept cost first (Some least) = if nat_lt (cost least) (cost first) then least else first

unfoldable pub least_of : {A : Type 0} → (A → ℕ) → List A → Option A
least_of cost [] = None
least_of cost (first ∷ more) = Some (kept cost first (least_of cost more))

-- what that means: it stands at a place, none costs less, and each before it costs more
pub record IsFirstLeast {A : Type 0} (cost : A → ℕ) (list : List A) (least : A) : Type 0 where
  pub place : ℕ
  pub stands : place < length list
  pub is : slice_index_or list place least ≡ least
  pub none_less : (other : ℕ) → cost least ≤ cost (slice_index_or list other least)
  pub first : (other : ℕ) → other < place → cost least < cost (slice_index_or list other least)

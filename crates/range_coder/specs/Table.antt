-- How a state is adapted after each binary value (RFC 9043, section 3.8.1.4): a table has the next
-- state after bit 1 of each of the 256 states, and what follows bit 0 is its mirror image.
use Rattle.std.specs.Prelude.{ℕ, ◌-◌, ◌<◌, ◌≤◌, Bool, true, false, List, length, slice_index}

-- the state after bit 1
abbrev pub one_state : List ℕ → ℕ → ℕ
one_state table state = slice_index table state

-- the state after bit 0
abbrev pub zero_state : List ℕ → ℕ → ℕ
zero_state table state = 256 - slice_index table (256 - state)

-- the state after a bit
unfoldable pub next_state : List ℕ → ℕ → Bool → ℕ
next_state table state true = one_state table state
next_state table state false = zero_state table state

-- with a state below 1 or above 255 nothing can be coded
pub record IsState (state : ℕ) : Type 0 where
  pub low : 1 ≤ state
  pub high : state ≤ 255

-- a state that can be used with the table, whichever bit comes
pub record IsLive (table : List ℕ) (state : ℕ) : Type 0 where
  pub usable : IsState state
  pub after_one : IsState (one_state table state)
  pub mirrored : IsState (one_state table (256 - state))

-- a binary value on a live state leaves a live state
pub record IsClosed (table : List ℕ) : Type 0 where
  pub next : (state : ℕ) (bit : Bool) → IsLive table state → IsLive table (next_state table state bit)

-- each of the states is live for the table
pub record AreLive (table states : List ℕ) : Type 0 where
  pub each : (slot : ℕ) → slot < length states → IsLive table (slice_index states slot)

-- Values coded with states that are looked up as they go (RFC 9043, section 3.8.1.2): a list of
-- choices over numbered slots. There are as many slots as there are states, so that sets of states may
-- stand one behind another: those of a set are numbered from where it begins.
use Rattle.std.specs.Prelude.{◌≡◌, ◌≢◌, ℕ, ◌+◌, ◌<◌, Bool, List, [], ◌∷◌, ◌++◌, map, slice_index, slice_set, All}
use Rattle.range_coder.specs.Interval.{Decision, Interval, narrowed}
use Rattle.range_coder.specs.Table.{next_state}

-- a bit, coded with the state of a slot, which is then adapted
pub record Choice : Type 0 where
  pub slot : ℕ
  pub bit : Bool

-- the states after a choice
abbrev pub adapted : List ℕ → List ℕ → Choice → List ℕ
adapted table states c = slice_set states c.slot (next_state table (slice_index states c.slot) c.bit)

-- the states after a list of choices
unfoldable pub states_after : List ℕ → List ℕ → List Choice → List ℕ
states_after table states [] = states
states_after table states (c ∷ more) = states_after table (adapted table states c) more

-- the decisions of a list of choices
unfoldable pub decided : List ℕ → List ℕ → List Choice → List Decision
decided table states [] = []
decided table states (c ∷ more) =
    record { state = slice_index states c.slot; bit = c.bit } ∷ decided table (adapted table states c) more

-- the interval after a list of choices
abbrev pub chosen : List ℕ → List ℕ → Interval → List Choice → Interval
chosen table states i choices = narrowed i (decided table states choices)

-- the choices, for a set whose slots are numbered from `first` on
abbrev pub moved : ℕ → List Choice → List Choice
moved first choices = map (λ c. record { slot = first + c.slot; bit = c.bit }) choices

-- each choice has one of the slots
pub record UseSlots (slots : ℕ) (choices : List Choice) : Type 0 where
  pub each : All (λ c. c.slot < slots) choices

-- two lists of choices are the same as far as `common`, and then differ in the bit on one slot
pub record Part (left right : List Choice) : Type 0 where
  pub common : List Choice
  pub slot : ℕ
  pub left_bit : Bool
  pub right_bit : Bool
  pub left_rest : List Choice
  pub right_rest : List Choice
  pub left_is : left ≡ common ++ record { slot = slot; bit = left_bit } ∷ left_rest
  pub right_is : right ≡ common ++ record { slot = slot; bit = right_bit } ∷ right_rest
  pub differ : left_bit ≢ right_bit

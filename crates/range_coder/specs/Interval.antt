-- Range coding (RFC 9043, section 3.8.1): a list of decisions is an interval of numbers, and bytes
-- that name a number in it are read as these decisions. All is stated on whole numbers without
-- bound: there are no windows and no carries.
use Rattle.std.specs.Prelude.{ℕ, zero, suc, ◌+◌, ◌-◌, ◌*◌, ◌/◌, ◌<◌, ◌≤◌, Bool, true, false, nat_lt, if◌then◌else◌, List, [], ◌∷◌, slice_index}
use Rattle.std.specs.Int.{bytes_high_first}

-- a binary value coded with the value of a state, from 1 to 255
pub record Decision : Type 0 where
  pub state : ℕ
  pub bit : Bool

-- the numbers from `low` on, `range` of them, after so many renewals of the range by a byte
pub record Interval : Type 0 where
  pub low : ℕ
  pub range : ℕ
  pub shifts : ℕ

-- the interval of no decision
unfoldable pub whole : Interval
whole = record { low = 0; range = 65280; shifts = 0 }

-- how much of a range bit 1 has; it has the upper end
abbrev pub part_of_one : ℕ → ℕ → ℕ
part_of_one range state = range * state / 256

-- the part of the interval that the bit has
unfoldable pub part : Interval → ℕ → Bool → Interval
part i state true =
    record { low = i.low + (i.range - part_of_one i.range state); range = part_of_one i.range state; shifts = i.shifts }
part i state false =
    record { low = i.low; range = i.range - part_of_one i.range state; shifts = i.shifts }

-- a range below 256 is renewed by a byte
unfoldable pub renewed : Interval → Interval
renewed i =
    if nat_lt i.range 256 then record { low = i.low * 256; range = i.range * 256; shifts = i.shifts + 1 } else i

-- the interval after one more decision
unfoldable pub narrow : Interval → ℕ → Bool → Interval
narrow i state bit = renewed (part i state bit)

-- the interval after more decisions
unfoldable pub narrowed : Interval → List Decision → Interval
narrowed i [] = i
narrowed i (d ∷ more) = narrowed (narrow i d.state d.bit) more

-- the number that the first n bytes spell, the highest byte first; past the end the bytes are zeros
unfoldable pub first_bytes : ℕ → List ℕ → ℕ
first_bytes zero bytes = 0
first_bytes (suc n) bytes = first_bytes n bytes * 256 + slice_index bytes n

-- the bytes name a number of the interval: their first two, and one more for each shift
pub record Inside (bytes : List ℕ) (i : Interval) : Type 0 where
  pub above : i.low ≤ first_bytes (i.shifts + 2) bytes
  pub below : first_bytes (i.shifts + 2) bytes < i.low + i.range

-- the bytes are read as these decisions, one after another
pub record Reads (bytes : List ℕ) (decisions : List Decision) : Type 0 where
  pub inside : Inside bytes (narrowed whole decisions)

-- the bytes of the interval with which a list of decisions ends
unfoldable pub bytes_in : Interval → List ℕ
bytes_in i = bytes_high_first (i.shifts + 1) ((i.low + 255) / 256)

-- the bytes that end a list of decisions with this interval: those after one more decision, bit 0 on
-- the state 129 (section 3.8.1.1.1, the sentinel), which no reader needs to read
unfoldable pub ending : Interval → List ℕ
ending i = bytes_in (narrow i 129 false)

-- the coded bytes of a list of decisions
unfoldable pub coded : List Decision → List ℕ
coded decisions = ending (narrowed whole decisions)

-- What holds of coded bytes and of reading them.
use Rattle.std.specs.Prelude.{◌≡◌, ◌≢◌, ℕ, ◌≤◌, Bool, List, [], ◌∷◌, ◌++◌, length, slice_index, All, ℤ}
use Rattle.cook_bits.specs.Bits.{AreBytes}
use Rattle.range_coder.specs.Interval.{Decision, Interval, narrowed, Inside, Reads, coded}
use Rattle.range_coder.specs.Table.{IsState, IsClosed, AreLive}
use Rattle.range_coder.specs.Reading.{Reader, HasRead, ReadsOn}
use Rattle.range_coder.specs.Choices.{Choice, states_after, decided, moved, UseSlots, Part}
use Rattle.range_coder.specs.Encoding.{Encoding}
use Rattle.range_coder.specs.Coding.{Puts, Gets}
use Rattle.range_coder.specs.Symbol.{IsCodable, AreCodable, symbol_choices, overlong_choices, placed_choices}

-- each decision is on a state from 1 to 255
pub record OnStates (decisions : List Decision) : Type 0 where
  pub each : All (λ d. IsState d.state) decisions

-- the coded bytes of a list of decisions are read as these
abbrev pub CodedIsRead : Type 0
CodedIsRead = (decisions : List Decision) → OnStates decisions → Reads (coded decisions) decisions

-- coded bytes are bytes, at least one, and the first isn't 255
abbrev pub CodedAreBytes : Type 0
CodedAreBytes = (decisions : List Decision) → AreBytes (coded decisions)

abbrev pub CodedBegins : Type 0
CodedBegins =
    (decisions : List Decision) → OnStates decisions → (1 ≤ length (coded decisions)) × (slice_index (coded decisions) 0 ≢ 255)

-- of the two decisions on a state, one and not both
pub record ReadsOneMore (bytes : List ℕ) (decisions : List Decision) (state : ℕ) : Type 0 where
  pub bit : Bool
  pub reads : Reads bytes (decisions ++ record { state = state; bit = bit } ∷ [])
  pub only : (other : Bool) → Reads bytes (decisions ++ record { state = state; bit = other } ∷ []) → other ≡ bit

-- bytes that are read as a list of decisions are read as exactly one of the two that follow
abbrev pub OneMoreIsRead : Type 0
OneMoreIsRead =
    (bytes : List ℕ) (decisions : List Decision) (state : ℕ) → AreBytes bytes → OnStates decisions → IsState state → Reads bytes decisions → ReadsOneMore bytes decisions state

-- what is read as a list of decisions is read as each front of it
abbrev pub FrontIsRead : Type 0
FrontIsRead =
    (bytes : List ℕ) (front rest : List Decision) → AreBytes bytes → OnStates rest → Reads bytes (front ++ rest) → Reads bytes front

-- a reader that has come to an interval shows that the bytes name a number in it
abbrev pub ReadIsInside : Type 0
ReadIsInside = (reader : Reader) (bytes : List ℕ) (i : Interval) → HasRead reader bytes i → Inside bytes i

-- decisions read one after another
abbrev pub ReadOnIsJoined : Type 0
ReadOnIsJoined =
    (before between after : Reader) (left right : List Decision) → ReadsOn before between left → ReadsOn between after right → ReadsOn before after (left ++ right)

-- intervals, decisions and states of choices one after another
abbrev pub NarrowedIsJoined : Type 0
NarrowedIsJoined = (i : Interval) (left right : List Decision) → narrowed i (left ++ right) ≡ narrowed (narrowed i left) right

abbrev pub DecidedIsJoined : Type 0
DecidedIsJoined =
    (table states : List ℕ) (left right : List Choice) → decided table states (left ++ right) ≡ decided table states left ++ decided table (states_after table states left) right

abbrev pub StatesAreJoined : Type 0
StatesAreJoined =
    (table states : List ℕ) (left right : List Choice) → states_after table states (left ++ right) ≡ states_after table (states_after table states left) right

-- on live states each decision of choices is on a state, and live states are left, as many as before
abbrev pub ChoicesStayLive : Type 0
ChoicesStayLive =
    (table states : List ℕ) (choices : List Choice) → IsClosed table → AreLive table states → UseSlots (length states) choices → AreLive table (states_after table states choices)

abbrev pub ChoicesAreOnStates : Type 0
ChoicesAreOnStates =
    (table states : List ℕ) (choices : List Choice) → IsClosed table → AreLive table states → UseSlots (length states) choices → OnStates (decided table states choices)

abbrev pub ChoicesKeepCount : Type 0
ChoicesKeepCount = (table states : List ℕ) (choices : List Choice) → length (states_after table states choices) ≡ length states

-- so a set of states keeps its size, whatever is put with it or got
abbrev pub PutKeepsCount : Type 0
PutKeepsCount =
    (table : List ℕ) (before : Encoding) (states : List ℕ) (after : Encoding) (left : List ℕ) (choices : List Choice) → Puts table before states after left choices → length left ≡ length states

abbrev pub GetKeepsCount : Type 0
GetKeepsCount =
    (table : List ℕ) (before : Reader) (states : List ℕ) (after : Reader) (left : List ℕ) (choices : List Choice) → Gets table before states after left choices → length left ≡ length states

-- choices on the states of one set, among others before and behind it
abbrev pub MovedIsDecided : Type 0
MovedIsDecided =
    (table before states behind : List ℕ) (choices : List Choice) → UseSlots (length states) choices → decided table (before ++ states ++ behind) (moved (length before) choices) ≡ decided table states choices

abbrev pub MovedLeaves : Type 0
MovedLeaves =
    (table before states behind : List ℕ) (choices : List Choice) → UseSlots (length states) choices → states_after table (before ++ states ++ behind) (moved (length before) choices) ≡ before ++ states_after table states choices ++ behind

-- the same bytes aren't read as two lists of choices that differ in the bit on one slot, after all
-- that they have in common: so where each slot is determined by the choices before it, as in a whole
-- record or slice, bytes determine the list
abbrev pub PartedAreNotBothRead : Type 0
PartedAreNotBothRead =
    (table states bytes : List ℕ) (left right : List Choice) → IsClosed table → AreLive table states → UseSlots (length states) left → UseSlots (length states) right → AreBytes bytes → Part left right → Reads bytes (decided table states left) → Reads bytes (decided table states right) → ⊥

-- two numbers of a symbol part, whatever follows them, wherever their set of states stands, and
-- whatever came before
abbrev pub SymbolsPart : Type 0
SymbolsPart =
    (first : ℕ) (signed : Bool) (left right : ℤ) (common left_rest right_rest : List Choice) → IsCodable left signed → IsCodable right signed → left ≢ right → Part (common ++ (moved first (symbol_choices left signed) ++ left_rest)) (common ++ (moved first (symbol_choices right signed) ++ right_rest))

-- and so does a symbol whose exponent passes 30 from each number
abbrev pub OverlongParts : Type 0
OverlongParts =
    (first : ℕ) (signed : Bool) (value : ℤ) (common left_rest right_rest : List Choice) → IsCodable value signed → Part (common ++ (moved first (symbol_choices value signed) ++ left_rest)) (common ++ (moved first overlong_choices ++ right_rest))

-- the slots of a symbol
abbrev pub SymbolSlots : Type 0
SymbolSlots = (value : ℤ) (signed : Bool) → UseSlots 32 (symbol_choices value signed)

abbrev pub OverlongSlots : Type 0
OverlongSlots = UseSlots 32 overlong_choices

-- so bytes determine a whole list of numbers, each placed by those before it
abbrev pub PlacedNumbersAreOne : Type 0
PlacedNumbersAreOne =
    (table states bytes : List ℕ) (first : List ℤ → ℕ) (signed : List ℤ → Bool) (left right : List ℤ) → IsClosed table → AreLive table states → UseSlots (length states) (placed_choices first signed [] left) → UseSlots (length states) (placed_choices first signed [] right) → AreBytes bytes → AreCodable signed [] left → AreCodable signed [] right → length left ≡ length right → Reads bytes (decided table states (placed_choices first signed [] left)) → Reads bytes (decided table states (placed_choices first signed [] right)) → left ≡ right

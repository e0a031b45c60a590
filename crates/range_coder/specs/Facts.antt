-- Facts about codes that a coder of whole pictures builds on, in records that laws tell.
use Rattle.std.specs.Prelude.{◌≡◌, ◌≢◌, ℕ, ◌+◌, ◌*◌, ◌^◌, ◌<◌, ◌≤◌, Bool, List, [], ◌∷◌, ◌++◌, length, take, drop, replicate, All, ℤ, unsigned_abs}
use Rattle.range_coder.specs.declared.symbol.Placed.{Placed}
use Rattle.range_coder.specs.Interval.{Decision, whole, Reads, ending, coded}
use Rattle.range_coder.specs.Table.{IsLive, IsClosed, AreLive}
use Rattle.range_coder.specs.DefaultTable.{default_one_states}
use Rattle.range_coder.specs.Reading.{Reader, Begins}
use Rattle.range_coder.specs.Encoding.{Encoding}
use Rattle.range_coder.specs.Choices.{Choice, decided, moved, UseSlots, Part}
use Rattle.range_coder.specs.Coding.{Puts, PutsFront, Gets}
use Rattle.range_coder.specs.Symbol.{choice, symbol_choices, overlong_choices}
use Rattle.range_coder.specs.Placing.{ArePlaced, placed_symbols}

-- each magnitude is at most that of the greatest difference of two samples of 16 bits and a sign
pub record AreDifferences (symbols : List Placed) : Type 0 where
  pub each : All (λ p. unsigned_abs p.value ≤ 65536) symbols

-- how long codes are: a decision renews the range at most once, and a number of exponent e has at most 2e + 3 choices
pub record CodeLengths : Type 0 where
  pub coded : (decisions : List Decision) → length (coded decisions) ≤ length decisions + 2
  pub decided : (table states : List ℕ) (choices : List Choice) → length (decided table states choices) ≡ length choices
  pub moved : (first : ℕ) (choices : List Choice) → length (moved first choices) ≡ length choices
  pub number : (value : ℤ) (signed : Bool) (e : ℕ) → unsigned_abs value < 2 ^ (e + 1) → length (symbol_choices value signed) ≤ 2 * e + 3
  pub difference : (value : ℤ) (signed : Bool) → unsigned_abs value ≤ 65536 → length (symbol_choices value signed) ≤ 35
  pub overlong : length overlong_choices ≡ 32
  pub line : (signed : Bool) (symbols : List Placed) → AreDifferences symbols → length (placed_symbols signed symbols) ≤ 35 * length symbols

-- choices put, refused and got one after another, and from the first to the last
pub record CodingsAreJoined : Type 0 where
  pub put_none : (table : List ℕ) (before : Encoding) (states : List ℕ) → Puts table before states before states []
  pub put : (table : List ℕ) (before : Encoding) (states : List ℕ) (between : Encoding) (held : List ℕ) (after : Encoding) (left : List ℕ) (front rest : List Choice) → Puts table before states between held front → Puts table between held after left rest → Puts table before states after left (front ++ rest)
  pub refused : (table : List ℕ) (before : Encoding) (states : List ℕ) (between : Encoding) (held : List ℕ) (after : Encoding) (left : List ℕ) (front rest : List Choice) → Puts table before states between held front → PutsFront table between held after left rest → PutsFront table before states after left (front ++ rest)
  pub refused_before : (table : List ℕ) (before : Encoding) (states : List ℕ) (after : Encoding) (left : List ℕ) (front rest : List Choice) → PutsFront table before states after left front → PutsFront table before states after left (front ++ rest)
  pub got_none : (table : List ℕ) (before : Reader) (states : List ℕ) → Gets table before states before states []
  pub got : (table : List ℕ) (before : Reader) (states : List ℕ) (between : Reader) (held : List ℕ) (after : Reader) (left : List ℕ) (front rest : List Choice) → Gets table before states between held front → Gets table between held after left rest → Gets table before states after left (front ++ rest)
  pub all_put : (table : List ℕ) (before : Encoding) (states : List ℕ) (after : Encoding) (left : List ℕ) (choices : List Choice) → before.interval ≡ whole → Puts table before states after left choices → ending after.interval ≡ coded (decided table states choices)
  pub all_got : (table : List ℕ) (before : Reader) (states : List ℕ) (after : Reader) (left : List ℕ) (choices : List Choice) (bytes : List ℕ) → Begins before bytes → Gets table before states after left choices → Reads bytes (decided table states choices)

-- lists that part, among others
pub record PartsStay : Type 0 where
  pub now : (slot : ℕ) (left_bit right_bit : Bool) (left right : List Choice) → left_bit ≢ right_bit → Part (choice slot left_bit ∷ left) (choice slot right_bit ∷ right)
  pub followed : (left right left_more right_more : List Choice) → Part left right → Part (left ++ left_more) (right ++ right_more)
  pub preceded : (front left right : List Choice) → Part left right → Part (front ++ left) (front ++ right)
  pub turned : (left right : List Choice) → Part left right → Part right left
  pub placed : (first : ℕ) (left right : List Choice) → Part left right → Part (moved first left) (moved first right)

-- the states of many sets, one behind another, and choices on one of the sets
pub record SetsOfStates : Type 0 where
  pub fresh : (table : List ℕ) (count : ℕ) → IsLive table 128 → AreLive table (replicate count 128)
  pub live : (table left right : List ℕ) → AreLive table left → AreLive table right → AreLive table (left ++ right)
  pub none : (slots : ℕ) → UseSlots slots []
  pub one : (slots slot : ℕ) (bit : Bool) → slot < slots → UseSlots slots (choice slot bit ∷ [])
  pub both : (slots : ℕ) (left right : List Choice) → UseSlots slots left → UseSlots slots right → UseSlots slots (left ++ right)
  pub front : (slots : ℕ) (left right : List Choice) → UseSlots slots (left ++ right) → UseSlots slots left
  pub rest : (slots : ℕ) (left right : List Choice) → UseSlots slots (left ++ right) → UseSlots slots right
  pub placed : (first few slots : ℕ) (choices : List Choice) → first + few ≤ slots → UseSlots few choices → UseSlots slots (moved first choices)
  pub line : (slots : ℕ) (signed : Bool) (symbols : List Placed) → ArePlaced slots signed symbols → UseSlots slots (placed_symbols signed symbols)
  pub put_on : (table : List ℕ) (before : Encoding) (states : List ℕ) (after : Encoding) (left : List ℕ) (first count : ℕ) (choices : List Choice) → first + count ≤ length states → UseSlots count choices → Puts table before (take count (drop first states)) after left choices → Puts table before states after (take first states ++ (left ++ drop count (drop first states))) (moved first choices)
  pub got_on : (table : List ℕ) (before : Reader) (states : List ℕ) (after : Reader) (left : List ℕ) (first count : ℕ) (choices : List Choice) → first + count ≤ length states → UseSlots count choices → Gets table before (take count (drop first states)) after left choices → Gets table before states after (take first states ++ (left ++ drop count (drop first states))) (moved first choices)

-- the default table
pub record DefaultTableIsLive : Type 0 where
  pub closed : IsClosed default_one_states
  pub live : (state : ℕ) → 8 ≤ state → state ≤ 248 → IsLive default_one_states state

-- A reader with the shared states, on its way through a record.
use Rattle.std.specs.Prelude.{◌≡◌, ℕ, List, length, Result, Ok, Err}
use Rattle.cook_bits.specs.Bits.{AreBytes}
use Rattle.range_coder.specs.Interval.{whole, narrowed}
use Rattle.range_coder.specs.Reading.{Reader, HasRead}
use Rattle.range_coder.specs.Laws.{OnStates}
use Rattle.range_coder.specs.Table.{AreLive}
use Rattle.range_coder.specs.DefaultTable.{default_one_states}
use Rattle.ffv1_params.specs.declared.error.ParamsWhy.{ParamsWhy}
use Rattle.ffv1_params.specs.declared.error.ParamsWhy.TheVariants as why
use Rattle.ffv1_params.specs.Reading.{Place, Reading, give}
use Rattle.ffv1_params.specs.Parameters.{Parameters}
use Rattle.std.specs.Global.{Vec}

pub record ReaderAt : Type 0 where
  pub reader : Reader
  pub states : List ℕ

abbrev pub reader_at : Reader → List ℕ → ReaderAt
reader_at reader states = record { reader = reader; states = states }

-- the walk has come to a place in the reading of these bytes
pub record IsAt (walk : ReaderAt) (bytes : List ℕ) (place : Place) : Type 0 where
  pub has_read : HasRead walk.reader bytes (narrowed whole place.decisions)
  pub states : walk.states ≡ place.states
  pub are_bytes : AreBytes bytes
  pub on_states : OnStates place.decisions
  pub live : AreLive default_one_states place.states
  pub count : length place.states ≡ 32

pub record Came (walk : ReaderAt) (bytes : List ℕ) {A : Type 0} (read : Result (A × Place) ParamsWhy) (rest : Reading A) : Type 0 where
  pub place : Place
  pub is_at : IsAt walk bytes place
  pub same : read ≡ rest bytes place

-- a reading, before the walk, is the rest of it, behind the walk, whatever the bytes are
pub record Leads {A : Type 0} (before after : ReaderAt) (reading rest : Reading A) : Type 0 where
  pub leads : (bytes : List ℕ) (place : Place) → IsAt before bytes place → Came after bytes (reading bytes place) rest

-- a reading is refused
pub record Refuses {A : Type 0} (before : ReaderAt) (reading : Reading A) (why : ParamsWhy) : Type 0 where
  pub refuses : (bytes : List ℕ) (place : Place) → IsAt before bytes place → reading bytes place ≡ Err why

-- what was answered is what the reading gives, unless memory ran out
unfoldable pub Fails : {A : Type 0} → ReaderAt → Reading A → ParamsWhy → Type 0
Fails before reading why.NoMemory = Unit {0}
Fails before reading refusal = Refuses before reading refusal

abbrev pub Answers : {A : Type 0} → ReaderAt → ReaderAt → Result A ParamsWhy → Reading A → Type 0
Answers before after (Ok value) reading = Leads before after reading (give value)
Answers before after (Err why) reading = Fails before reading why

-- a result as its list
abbrev pub items_of : {A : Type 0} → Result (Vec A) ParamsWhy → Result (List A) ParamsWhy
items_of (Ok v) = Ok v.items
items_of (Err why) = Err why

abbrev pub FailsRead : ParamsWhy → Result Parameters ParamsWhy → Type 0
FailsRead why.NoMemory read = Unit {0}
FailsRead refusal read = read ≡ Err refusal

-- what was answered is what the record means, unless memory ran out
abbrev pub Gives : Result Parameters ParamsWhy → Result Parameters ParamsWhy → Type 0
Gives (Ok params) read = read ≡ Ok params
Gives (Err why) read = FailsRead why read

-- The record as it is read (RFC 9043, section 4.2, "Parameters", and section 4.3, "Configuration Record").
-- What bytes are read as is told by the decisions that they are read as: the next value is the one whose
-- decisions the bytes are read as, behind those so far.
use Rattle.std.specs.Prelude.{ℕ, zero, suc, ◌+◌, ◌-◌, ◌*◌, ◌^◌, ◌==◌, ◌&&◌, ◌||◌, not, Bool, true, nat_lt, nat_le, if◌then◌else◌, List, [], ◌∷◌, ◌++◌, length, take, slice_index, Option, Some, None, Result, Ok, Err}
use Rattle.cook_bits.specs.Crc.{crc32_high_of}
use Rattle.range_coder.specs.Interval.{Decision, whole, narrowed, first_bytes}
use Rattle.range_coder.specs.Choices.{Choice, decided, states_after}
use Rattle.range_coder.specs.Symbol.{fresh_states}
use Rattle.range_coder.specs.DefaultTable.{default_one_states}
use Rattle.ffv1_params.specs.declared.error.ParamsWhy.{ParamsWhy}
use Rattle.ffv1_params.specs.declared.error.ParamsWhy.TheVariants.{RecordCrc, Start, Symbol, Version, Coder, Colour, Grid, Tables, Contexts, States, Ec}
use Rattle.ffv1_params.specs.QuantTables.{QuantSet, set_of, context_count}
use Rattle.ffv1_params.specs.Parameters.{Parameters, is_depth}
use Rattle.ffv1_params.specs.Record.{unsigned_choices, bit_choices}

-- ---- what bytes are read as

-- the bytes are read as these decisions
unfoldable pub is_read : List ℕ → List Decision → Bool
is_read bytes decisions =
    let i = narrowed whole decisions in
    nat_le i.low (first_bytes (i.shifts + 2) bytes) && nat_lt (first_bytes (i.shifts + 2) bytes) (i.low + i.range)

-- a place in the reading of a record: the decisions so far, and the shared states
pub record Place : Type 0 where
  pub decisions : List Decision
  pub states : List ℕ

-- the place after more choices on the shared states
unfoldable pub after : Place → List Choice → Place
after place choices =
    record { decisions = place.decisions ++ decided default_one_states place.states choices; states = states_after default_one_states place.states choices }

abbrev pub found_or : Option ℕ → Option ℕ → Option ℕ
found_or (Some n) other = Some n
found_or None other = other

-- the first of the numbers below `end` that passes
unfoldable pub first_below : ℕ → (ℕ → Bool) → Option ℕ
first_below zero passes = None
first_below (suc last) passes = found_or (first_below last passes) (if passes last then Some last else None)

-- the number that the bytes are read as next; none has an exponent of at most 30 where there is none
unfoldable pub number_at : List ℕ → Place → Option ℕ
number_at bytes place = first_below (2 ^ 31) (λ n. is_read bytes (after place (unsigned_choices n)).decisions)

-- the bit that they are read as next
unfoldable pub bit_at : List ℕ → Place → Bool
bit_at bytes place = is_read bytes (after place (bit_choices true)).decisions

-- ---- readings one after another, up to the first that is refused

abbrev pub Reading : Type 0 → Type 0
Reading A = List ℕ → Place → Result (A × Place) ParamsWhy

abbrev pub handed_on : {A B : Type 0} → (A → Reading B) → List ℕ → Result (A × Place) ParamsWhy → Result (B × Place) ParamsWhy
handed_on next bytes (Ok (value, place)) = next value bytes place
handed_on next bytes (Err why) = Err why

infixl 10 ◌>>=◌
unfoldable pub ◌>>=◌ : {A B : Type 0} → Reading A → (A → Reading B) → Reading B
reading >>= next = λ bytes place. handed_on next bytes (reading bytes place)

-- nothing more is read
unfoldable pub give : {A : Type 0} → A → Reading A
give value = λ bytes place. Ok (value, place)

unfoldable pub refuse : {A : Type 0} → ParamsWhy → Reading A
refuse why = λ bytes place. Err why

-- ---- values

abbrev pub taken : Place → Option ℕ → Result (ℕ × Place) ParamsWhy
taken place None = Err Symbol
taken place (Some n) = Ok (n, after place (unsigned_choices n))

-- a number without a sign
unfoldable pub symbol : Reading ℕ
symbol = λ bytes place. taken place (number_at bytes place)

-- a single bit
unfoldable pub bit : Reading Bool
bit = λ bytes place. Ok (bit_at bytes place, after place (bit_choices (bit_at bytes place)))

-- a number that is refused outside these bounds
unfoldable pub within : ℕ → ℕ → ParamsWhy → Reading ℕ
within least most why = do
  n ← symbol
  if nat_le least n && nat_le n most then give n else refuse why

-- a bit that is refused where it is set
unfoldable pub unset : ParamsWhy → Reading (Unit {0})
unset why = do
  set ← bit
  if set then refuse why else give tt

-- version and micro_version, and coder_type
unfoldable pub version : Reading ℕ
version = do
  version ← within 3 3 Version
  micro ← within 4 (2 ^ 31) Version
  within 1 1 Coder

-- the bits of a sample, where 0 stands for 8
unfoldable pub depth : Reading ℕ
depth = do
  bits ← symbol
  if bits == 0 then give 8 else if is_depth bits then give bits else refuse Colour

-- colorspace_type, bits_per_raw_sample, chroma_planes, the two log2 subsamplings, extra_plane
unfoldable pub colours : Reading ℕ
colours = do
  space ← within 1 1 Colour
  bits ← depth
  chroma ← bit
  across ← within 0 0 Colour
  down ← within 0 0 Colour
  extra ← unset Colour
  give bits

-- the columns and the rows of slices
unfoldable pub grid : Reading (ℕ × ℕ)
grid = do
  columns ← symbol
  rows ← symbol
  if nat_le ((columns + 1) * (rows + 1)) 1024 then give (columns + 1, rows + 1) else refuse Grid

-- the lengths of the runs of a table, of which so many places are left; each run has one of them at least
unfoldable pub runs_of : ℕ → ℕ → Reading (List ℕ)
runs_of zero left = give []
runs_of (suc more) left = if left == 0 then give [] else (do
  less ← symbol
  if nat_le (less + 1) left then (do
    rest ← runs_of more (left - (less + 1))
    give ((less + 1) ∷ rest)) else refuse Tables)

abbrev pub with_states : {A : Type 0} → List ℕ → Result (A × Place) ParamsWhy → Result (A × Place) ParamsWhy
with_states states (Ok (value, place)) = Ok (value, record { decisions = place.decisions; states = states })
with_states states (Err why) = Err why

-- a table has fresh states, and leaves the shared ones
unfoldable pub table : Reading (List ℕ)
table = λ bytes place. with_states place.states (runs_of 128 128 bytes (record { decisions = place.decisions; states = fresh_states }))

-- the same reading, so many times
unfoldable pub repeated : {A : Type 0} → ℕ → Reading A → Reading (List A)
repeated zero reading = give []
repeated (suc count) reading = do
  first ← reading
  others ← repeated count reading
  give (first ∷ others)

-- a set of five tables
unfoldable pub table_set : Reading QuantSet
table_set = do
  five ← repeated 5 table
  if nat_le (context_count five) 32768 then give (set_of five) else refuse Contexts

-- states_coded, a bit for each set
unfoldable pub no_states : ℕ → Reading (Unit {0})
no_states zero = give tt
no_states (suc count) = do
  coded ← unset States
  no_states count

-- ec and intra
unfoldable pub flags : Reading Bool
flags = do
  ec ← within 0 1 Ec
  intra ← within 0 1 Ec
  give (ec == 1)

-- the parameters
unfoldable pub parameters : Reading Parameters
parameters = do
  coder ← version
  bits ← colours
  slices ← grid
  count ← within 1 8 Tables
  sets ← repeated count table_set
  coded ← no_states count
  ec ← flags
  give (record { bits = bits; columns = slices.0; rows = slices.1; ec = ec; table = default_one_states; sets = sets })

-- ---- the whole record

abbrev pub start_place : Place
start_place = record { decisions = []; states = fresh_states }

abbrev pub value_of : Result (Parameters × Place) ParamsWhy → Result Parameters ParamsWhy
value_of (Ok (params, place)) = Ok params
value_of (Err why) = Err why

-- the bytes before the parity
abbrev pub before_parity : List ℕ → List ℕ
before_parity bytes = take (length bytes - 4) bytes

-- The parameters that a record holds, or the first rule that it breaks. No bytes are coded bytes where the first is 255.
unfoldable pub record_read : List ℕ → Result Parameters ParamsWhy
record_read bytes =
    if nat_lt (length bytes) 4 || not (crc32_high_of bytes == 0) then Err RecordCrc
    else if slice_index (before_parity bytes) 0 == 255 then Err Start
    else value_of (parameters (before_parity bytes) start_place)

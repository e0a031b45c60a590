-- A slice (RFC 9043, sections 4.5 to 4.8) as one list of choices over numbered slots, and what bytes code.
use Rattle.std.specs.Prelude.{◌≡◌, ℕ, zero, suc, ◌+◌, ◌-◌, ◌*◌, ◌^◌, ◌<◌, ◌≤◌, Bool, true, false, if◌then◌else◌, List, [], ◌∷◌, ◌++◌, length, replicate, slice_index, All, ℤ, pos}
use Rattle.std.specs.List.{flat_map}
use Rattle.range_coder.specs.Interval.{Decision, Reads}
use Rattle.range_coder.specs.Choices.{Choice, decided, moved}
use Rattle.range_coder.specs.Symbol.{choice, symbol_choices}
use Rattle.ffv1_params.specs.QuantTables.{most_contexts}
use Rattle.ffv1_params.specs.Parameters.{Parameters, set_at}
use Rattle.ffv1_slice.specs.declared.head.SliceHead.{SliceHead}
use Rattle.ffv1_slice.specs.Plane.{around_at, sample_choices, IsSample, joined, Joins}
use Rattle.ffv1_slice.specs.Colour.{samples_of}

-- ---- the states: the keyframe bit's, the 32 of the header, those of luma and those of the differences

abbrev pub slots_of : ℕ → ℕ
slots_of contexts = 33 + 64 * contexts

-- at the start each is 128
unfoldable pub fresh_slots : ℕ → List ℕ
fresh_slots slots = replicate slots 128

abbrev pub slice_states : Parameters → List ℕ
slice_states params = fresh_slots (slots_of (most_contexts params.sets))

-- luma has states of its own, and both differences share others
abbrev pub first_slot : Parameters → ℕ → ℕ
first_slot params zero = 33
first_slot params (suc plane) = 33 + 32 * most_contexts params.sets

abbrev pub index_of : SliceHead → ℕ → ℕ
index_of head zero = slice_index head.indices 0
index_of head (suc plane) = slice_index head.indices 1

-- the quantization tables of a plane
abbrev pub plane_values : Parameters → SliceHead → ℕ → List ℤ
plane_values params head plane = (set_at params (index_of head plane)).values

-- ---- the choices

abbrev pub key_choices : Bool → Bool → List Choice
key_choices first key = if first then choice 0 key ∷ [] else []

-- a number of the header, without a sign
abbrev pub number_choices : ℕ → List Choice
number_choices number = moved 1 (symbol_choices (pos number) false)

unfoldable pub header_choices : List ℕ → List Choice
header_choices numbers = flat_map number_choices numbers

-- slice_x, slice_y, slice_width - 1, slice_height - 1, quant_table_set_index of luma and of the differences
abbrev pub head_numbers : SliceHead → List ℕ
head_numbers head =
    head.x ∷ head.y ∷ (head.columns - 1) ∷ (head.rows - 1) ∷ slice_index head.indices 0 ∷ slice_index head.indices 1 ∷ []

-- behind them picture_structure (progressive), sar_num, sar_den
abbrev pub written_numbers : SliceHead → List ℕ
written_numbers head = head_numbers head ++ (3 ∷ 0 ∷ 0 ∷ [])

abbrev pub line_choices : Parameters → SliceHead → ℕ → (ℕ → ℕ → ℕ → ℕ) → ℕ → ℕ → List Choice
line_choices params head width samples y plane =
    joined width (λ x. sample_choices (2 ^ params.bits) (plane_values params head plane) (first_slot params plane) (around_at width (samples plane) y x) (samples plane y x))

-- a row is coded as its lines of the three planes
abbrev pub row_choices : Parameters → SliceHead → ℕ → (ℕ → ℕ → ℕ → ℕ) → ℕ → List Choice
row_choices params head width samples y = joined 3 (line_choices params head width samples y)

abbrev pub rows_choices : Parameters → SliceHead → ℕ → (ℕ → ℕ → ℕ → ℕ) → ℕ → List Choice
rows_choices params head width samples height = joined height (row_choices params head width samples)

-- what stands before the rows
abbrev pub front_choices : Bool → List ℕ → List Choice
front_choices first numbers = key_choices first true ++ header_choices numbers

abbrev pub slice_choices : Parameters → SliceHead → ℕ → ℕ → Bool → List ℕ → List Choice
slice_choices params head width height first tile =
    front_choices first (written_numbers head) ++ rows_choices params head width (samples_of params.bits width tile) height

-- the decisions of choices of a slice
abbrev pub decided_in : Parameters → List Choice → List Decision
decided_in params choices = decided params.table (slice_states params) choices

unfoldable pub slice_decisions : Parameters → SliceHead → ℕ → ℕ → Bool → List ℕ → List Decision
slice_decisions params head width height first tile =
    decided_in params (slice_choices params head width height first tile)

-- ---- what bytes code

-- the cells that these numbers tell are in the grid
pub record AreCells (params : Parameters) (x y columns_less rows_less : ℕ) : Type 0 where
  pub across : x + (columns_less + 1) ≤ params.columns
  pub down : y + (rows_less + 1) ≤ params.rows

-- numbers with which a header begins, each tested as soon as it can be: the cells with the fourth, each index by itself
pub record AreTaken (params : Parameters) (numbers : List ℕ) : Type 0 where
  pub codable : All (λ n. n < 2 ^ 31) numbers
  pub cells : 4 ≤ length numbers → AreCells params (slice_index numbers 0) (slice_index numbers 1) (slice_index numbers 2) (slice_index numbers 3)
  pub luma_index : 5 ≤ length numbers → slice_index numbers 4 < length params.sets
  pub difference_index : 6 ≤ length numbers → slice_index numbers 5 < length params.sets

-- the head that a whole header tells; its last three numbers may be any
pub record TellHead (params : Parameters) (numbers : List ℕ) (head : SliceHead) : Type 0 where
  pub count : length numbers ≡ 9
  pub taken : AreTaken params numbers
  pub x : head.x ≡ slice_index numbers 0
  pub y : head.y ≡ slice_index numbers 1
  pub columns : head.columns ≡ slice_index numbers 2 + 1
  pub rows : head.rows ≡ slice_index numbers 3 + 1
  pub indices : head.indices ≡ slice_index numbers 4 ∷ slice_index numbers 5 ∷ []

-- bytes begin as a slice with this head
pub record CodesHead (params : Parameters) (first : Bool) (bytes : List ℕ) (head : SliceHead) : Type 0 where
  pub numbers : List ℕ
  pub tell : TellHead params numbers head
  pub reads : Reads bytes (decided_in params (front_choices first numbers))

abbrev pub IsLine : Parameters → SliceHead → ℕ → (ℕ → ℕ → ℕ → ℕ) → ℕ → ℕ → List Choice → Type 0
IsLine params head width samples y plane choices =
    Joins width (λ x. IsSample (2 ^ params.bits) (plane_values params head plane) (first_slot params plane) (around_at width (samples plane) y x) (samples plane y x)) choices

abbrev pub IsRow : Parameters → SliceHead → ℕ → (ℕ → ℕ → ℕ → ℕ) → ℕ → List Choice → Type 0
IsRow params head width samples y choices = Joins 3 (IsLine params head width samples y) choices

abbrev pub AreRows : Parameters → SliceHead → ℕ → (ℕ → ℕ → ℕ → ℕ) → ℕ → List Choice → Type 0
AreRows params head width samples height choices = Joins height (IsRow params head width samples) choices

-- a tile of this size, each colour of these bits
pub record IsTile (bits width height : ℕ) (tile : List ℕ) : Type 0 where
  pub long : length tile ≡ 3 * (width * height)
  pub within : All (λ sample. sample < 2 ^ bits) tile

-- Bytes code a head and a tile: they are read as the choices of a slice, where the last three numbers of the header
-- may be any, and each difference any that is equal modulo two to the bits and one more.
pub record Codes (params : Parameters) (first : Bool) (width height : ℕ) (bytes : List ℕ) (head : SliceHead) (tile : List ℕ) : Type 0 where
  pub numbers : List ℕ
  pub choices : List Choice
  pub tell : TellHead params numbers head
  pub rows : AreRows params head width (samples_of params.bits width tile) height choices
  pub is_tile : IsTile params.bits width height tile
  pub reads : Reads bytes (decided_in params (front_choices first numbers ++ choices))

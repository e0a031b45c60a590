-- The configuration record (RFC 9043, section 4.2, "Parameters", and section 4.3, "Configuration Record"):
-- the values of the parameters, range coded one after another, and a parity behind them.
use Rattle.std.specs.Prelude.{ℕ, ◌-◌, Bool, true, false, List, [], ◌∷◌, ◌++◌, pos}
use Rattle.std.specs.List.{flat_map}
use Rattle.std.specs.Int.{bytes_high_first}
use Rattle.cook_bits.specs.Crc.{crc32_high_of}
use Rattle.range_coder.specs.Interval.{Decision, coded}
use Rattle.range_coder.specs.Choices.{Choice, states_after, decided}
use Rattle.range_coder.specs.Symbol.{choice, symbol_choices, fresh_states}
use Rattle.range_coder.specs.DefaultTable.{default_one_states}
use Rattle.ffv1_params.specs.Parameters.{stepped, flat}

-- a value of the record: a number, a single bit, or a quantization table by the lengths of its runs
pub data Field : Type 0 where
  number : ℕ → Field
  single : Bool → Field
  table : List ℕ → Field

-- a number is a symbol without a sign
abbrev pub unsigned_choices : ℕ → List Choice
unsigned_choices value = symbol_choices (pos value) false

-- a single bit has the first state of the set
abbrev pub bit_choices : Bool → List Choice
bit_choices bit = choice 0 bit ∷ []

-- a table is the lengths of its runs, each less one
unfoldable pub run_choices : List ℕ → List Choice
run_choices runs = flat_map (λ run. unsigned_choices (run - 1)) runs

-- all values share a set of states, but each table has a fresh one
unfoldable pub field_decisions : List ℕ → Field → List Decision
field_decisions states (number value) = decided default_one_states states (unsigned_choices value)
field_decisions states (single bit) = decided default_one_states states (bit_choices bit)
field_decisions states (table runs) = decided default_one_states fresh_states (run_choices runs)

-- the shared states after a value
unfoldable pub states_after_field : List ℕ → Field → List ℕ
states_after_field states (number value) = states_after default_one_states states (unsigned_choices value)
states_after_field states (single bit) = states_after default_one_states states (bit_choices bit)
states_after_field states (table runs) = states

unfoldable pub fields_decisions : List ℕ → List Field → List Decision
fields_decisions states [] = []
fields_decisions states (field ∷ more) = field_decisions states field ++ fields_decisions (states_after_field states field) more

abbrev pub record_decisions : List Field → List Decision
record_decisions fields = fields_decisions fresh_states fields

-- bytes and their parity, the highest byte first
unfoldable pub with_parity : List ℕ → List ℕ
with_parity bytes = bytes ++ bytes_high_first 4 (crc32_high_of bytes)

unfoldable pub record_of : List Field → List ℕ
record_of fields = with_parity (coded (record_decisions fields))

-- the values of the writer's record: version, micro_version, coder_type
abbrev pub version_fields : List Field
version_fields = number 3 ∷ number 4 ∷ number 1 ∷ []

-- colorspace_type, bits_per_raw_sample, chroma_planes, the two log2 subsamplings, extra_plane
abbrev pub colour_fields : ℕ → List Field
colour_fields bits = number 1 ∷ number bits ∷ single true ∷ number 0 ∷ number 0 ∷ single false ∷ []

-- the columns and the rows of slices, each less one
abbrev pub grid_fields : ℕ → List Field
grid_fields rows = number 0 ∷ number (rows - 1) ∷ []

-- quant_table_set_count, and the set
abbrev pub set_fields : List Field
set_fields = number 1 ∷ table stepped ∷ table stepped ∷ table stepped ∷ table flat ∷ table flat ∷ []

-- states_coded, ec, intra
abbrev pub flag_fields : List Field
flag_fields = single false ∷ number 1 ∷ number 1 ∷ []

abbrev pub film_fields : ℕ → ℕ → List Field
film_fields bits rows = version_fields ++ colour_fields bits ++ grid_fields rows ++ set_fields ++ flag_fields

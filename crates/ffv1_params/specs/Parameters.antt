-- The parameters of FFV1 (RFC 9043, section 4.2, "Parameters"), as far as this project reads them, and the parameters of its writer.
use Rattle.std.specs.Prelude.{◌≡◌, ℕ, ◌+◌, ◌-◌, ◌*◌, ◌/◌, ◌≤◌, ◌==◌, ◌||◌, Bool, true, List, [], ◌∷◌, length, slice_index_or, IsTrue, All}
use Rattle.range_coder.specs.DefaultTable.{default_one_states}
use Rattle.ffv1_params.specs.QuantTables.{QuantSet, TellsContexts, set_of}

pub record Parameters : Type 0 where
  pub bits : ℕ
  pub columns : ℕ
  pub rows : ℕ
  pub ec : Bool
  pub table : List ℕ
  pub sets : List QuantSet

abbrev pub no_set : QuantSet
no_set = record { values = []; contexts = 0 }

-- a set by its number, from 0
abbrev pub set_at : Parameters → ℕ → QuantSet
set_at params number = slice_index_or params.sets number no_set

-- the bits of a sample that this project codes
abbrev pub is_depth : ℕ → Bool
is_depth bits = bits == 8 || bits == 10 || bits == 12 || bits == 16

-- what holds of all parameters
pub record AreSound (params : Parameters) : Type 0 where
  pub depth : IsTrue (is_depth params.bits)
  pub columns : 1 ≤ params.columns
  pub rows : 1 ≤ params.rows
  pub slices : params.columns * params.rows ≤ 1024
  pub table : params.table ≡ default_one_states
  pub some : 1 ≤ length params.sets
  pub most : length params.sets ≤ 8
  pub tell : All TellsContexts params.sets

-- the lengths of the runs of the writer's tables
abbrev pub stepped : List ℕ
stepped = 1 ∷ 2 ∷ 5 ∷ 16 ∷ 104 ∷ []

abbrev pub flat : List ℕ
flat = 128 ∷ []

abbrev pub film_tables : List (List ℕ)
film_tables = stepped ∷ stepped ∷ stepped ∷ flat ∷ flat ∷ []

-- the writer's parameters, with so many rows of slices
unfoldable pub film_params : ℕ → ℕ → Parameters
film_params bits rows =
    record { bits = bits; columns = 1; rows = rows; ec = true; table = default_one_states; sets = set_of film_tables ∷ [] }

-- the most lines of a slice of the writer: 16,000,000 bytes hold them at 35 bytes a sample of three
abbrev pub film_lines : ℕ → ℕ
film_lines width = 16000000 / (35 * width * 3)

-- the rows of slices of the writer: no slice has more lines
unfoldable pub film_rows : ℕ → ℕ → ℕ
film_rows width height = (height + (film_lines width - 1)) / film_lines width

-- the size of a picture that this project codes
pub record IsPicture (width height : ℕ) : Type 0 where
  pub width_some : 1 ≤ width
  pub width_most : width ≤ 16384
  pub height_some : 1 ≤ height
  pub height_most : height ≤ 16384
  pub pixels : width * height ≤ 67108864

-- the writer's parameters, whatever the rows
pub record AreFilm (params : Parameters) : Type 0 where
  pub depth : IsTrue (is_depth params.bits)
  pub rows_some : 1 ≤ params.rows
  pub rows_most : params.rows ≤ 1024
  pub are : params ≡ film_params params.bits params.rows

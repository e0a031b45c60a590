-- The pad forms of the side data: how the list of a frame's pads, the values in its image beside the
-- samples, is told in short. A form is one of
--
--     00                                        every pad is zero
--     01, u32 count, of so many runs u32 length, u8 value     each run is its value so many times, at least once
--     02, u32 count, the values                 the pads as they are
--
-- with big-endian numbers. The first doesn't tell how many pads there are: that follows from the
-- frame's layout. The values are those of this project's own side data; no public standard has them.
use Rattle.std.specs.Prelude.{◌≡◌, ℕ, zero, suc, ◌+◌, ◌*◌, ◌==◌, ◌&&◌, Bool, nat_lt, nat_le, if◌then◌else◌, List, [], ◌∷◌, ◌++◌, length, drop, slice_index, replicate, Option, Some, None}
use Rattle.std.specs.List.{flat_map, list_all}
use Rattle.std.specs.Int.{bytes_high_first}
use Rattle.byteorder.specs.Endian.{big_number}

-- a value so many times
pub record Run : Type 0 where
  pub times : ℕ
  pub value : ℕ

-- the values that runs stand for
unfoldable pub values_of : List Run → List ℕ
values_of runs = flat_map (λ run. replicate run.times run.value) runs

-- ---- the maximal runs of a list

-- the runs of a list that has this value before it
abbrev pub run_before : ℕ → List Run → List Run
run_before value [] = record { times = 1; value = value } ∷ []
run_before value (run ∷ runs) =
    if value == run.value then record { times = run.times + 1; value = value } ∷ runs else record { times = 1; value = value } ∷ run ∷ runs

-- runs of which no two neighbours have one value
unfoldable pub runs_of : List ℕ → List Run
runs_of [] = []
runs_of (value ∷ values) = run_before value (runs_of values)

-- ---- the forms as they are written

abbrev pub zeros_form : List ℕ
zeros_form = 0 ∷ []

abbrev pub run_bytes : Run → List ℕ
run_bytes run = bytes_high_first 4 run.times ++ run.value ∷ []

unfoldable pub runs_form : List Run → List ℕ
runs_form runs = 1 ∷ (bytes_high_first 4 (length runs) ++ flat_map run_bytes runs)

unfoldable pub values_form : List ℕ → List ℕ
values_form values = 2 ∷ (bytes_high_first 4 (length values) ++ values)

-- the shorter of two, the first on a tie
abbrev pub shorter : List ℕ → List ℕ → List ℕ
shorter first second = if nat_le (length first) (length second) then first else second

-- the writer's form: the shortest, the first on a tie, with maximal runs
unfoldable pub pad_form_of : List ℕ → List ℕ
pad_form_of values =
    if list_all (λ value. value == 0) values then zeros_form else shorter (runs_form (runs_of values)) (values_form values)

-- ---- a form as it is read, for so many pads

-- so many runs, of five bytes each
unfoldable pub runs_at : ℕ → List ℕ → List Run
runs_at zero bytes = []
runs_at (suc count) bytes = record { times = big_number 4 bytes; value = slice_index bytes 4 } ∷ runs_at count (drop 5 bytes)

abbrev pub is_run : Run → Bool
is_run run = nat_lt 0 run.times

abbrev pub zeros_read : List ℕ → ℕ → Option (List ℕ)
zeros_read body count = if length body == 0 then Some (replicate count 0) else None

abbrev pub filled_by : List Run → ℕ → Option (List ℕ)
filled_by runs count = if list_all is_run runs && (length (values_of runs) == count) then Some (values_of runs) else None

unfoldable pub runs_read : List ℕ → ℕ → Option (List ℕ)
runs_read body count =
    let runs = big_number 4 body in
    if length body == 4 + 5 * runs then filled_by (runs_at runs (drop 4 body)) count else None

unfoldable pub values_read : List ℕ → ℕ → Option (List ℕ)
values_read body count =
    if (big_number 4 body == count) && (length body == 4 + count) then Some (drop 4 body) else None

-- the pads that the form spells, where it is a form of so many
unfoldable pub pads_read : List ℕ → ℕ → Option (List ℕ)
pads_read [] count = None
pads_read (kind ∷ body) count =
    if kind == 0 then zeros_read body count
    else if kind == 1 then runs_read body count
    else if kind == 2 then values_read body count
    else None

-- ---- where a form ends, in bytes that begin with one

-- the length of the form by runs whose body the bytes begin with
unfoldable pub runs_len : List ℕ → Option ℕ
runs_len body =
    let runs = big_number 4 body in
    if nat_le (4 + 5 * runs) (length body) && list_all is_run (runs_at runs (drop 4 body)) then Some (5 + 5 * runs) else None

-- of the form by values
unfoldable pub values_len : List ℕ → Option ℕ
values_len body = let count = big_number 4 body in if nat_le (4 + count) (length body) then Some (5 + count) else None

-- the length of the form that the bytes begin with; none where they begin with no whole form
unfoldable pub pad_form_len : List ℕ → Option ℕ
pad_form_len [] = None
pad_form_len (kind ∷ body) =
    if kind == 0 then Some 1
    else if kind == 1 then runs_len body
    else if kind == 2 then values_len body
    else None

-- the bytes are one whole form
abbrev pub IsPadForm : List ℕ → Type 0
IsPadForm form = pad_form_len form ≡ Some (length form)

-- Which files are film or sound: their names alone say so.
use Rattle.std.specs.Prelude.{ℕ, ◌-◌, Bool, ◌||◌, List, length, drop, codes}
use Rattle.std.specs.Str.{str_eq_ignore_ascii_case}

-- the last four bytes
abbrev pub ending : List ℕ → List ℕ
ending name = drop (length name - 4) name

-- a frame ends in `.dpx` and a wave in `.wav`, in any ASCII case
unfoldable pub is_film_or_sound : List ℕ → Bool
is_film_or_sound name = str_eq_ignore_ascii_case (ending name) (codes ".dpx") || str_eq_ignore_ascii_case (ending name) (codes ".wav")

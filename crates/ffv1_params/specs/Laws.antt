-- What holds of records, whatever the parameters.
use Rattle.std.specs.Prelude.{◌≡◌, ℕ, ◌+◌, ◌-◌, ◌*◌, ◌/◌, ◌≤◌, Ok}
use Rattle.ffv1_params.specs.Parameters.{Parameters, AreFilm, AreSound, IsPicture, film_lines, film_rows}
use Rattle.ffv1_params.specs.Record.{record_of, film_fields}
use Rattle.ffv1_params.specs.Reading.{record_read}

-- the record of the writer's parameters is read as these
abbrev pub WrittenRecordIsRead : Type 0
WrittenRecordIsRead = (params : Parameters) → AreFilm params → record_read (record_of (film_fields params.bits params.rows)) ≡ Ok params

-- the writer's parameters are sound
abbrev pub FilmIsSound : Type 0
FilmIsSound = (params : Parameters) → AreFilm params → AreSound params

-- the writer's rows of slices: none has more lines than its bytes are counted for, and each has one at least
pub record FilmRows : Type 0 where
  pub lines : (width height : ℕ) → IsPicture width height → 1 ≤ film_lines width
  pub bytes : (width height : ℕ) → IsPicture width height → 105 * (width * film_lines width) ≤ 16000000
  pub some : (width height : ℕ) → IsPicture width height → 1 ≤ film_rows width height
  pub few : (width height : ℕ) → IsPicture width height → film_rows width height ≤ 1024
  pub within : (width height : ℕ) → IsPicture width height → film_rows width height ≤ height
  pub tile : (width height row : ℕ) → IsPicture width height → (row + 1) * height / film_rows width height - row * height / film_rows width height ≤ film_lines width

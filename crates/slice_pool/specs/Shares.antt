-- Which tiles a worker's share has.
use Rattle.std.specs.Prelude.{ℕ, ◌*◌, ◌/◌}

-- the first tile of a share, of so many tiles among so many workers; the next share's first is behind its last
unfoldable pub first_tile : ℕ → ℕ → ℕ → ℕ
first_tile tiles workers share = share * tiles / workers

-- The part of the buffer that some shares in a row have.
use Rattle.std.specs.Prelude.{◌≡◌, ℕ, ◌+◌, ◌-◌, ◌<◌, ◌≤◌, List, length, take, drop, get_or}
use Rattle.slice_pool.specs.Tiles.{bound, IsAscending}
use Rattle.slice_pool.specs.Shares.{first_tile}

-- the tile under a number, in a part that begins with a bound
abbrev pub tile_in : List ℕ → ℕ → ℕ → List ℕ → List ℕ
tile_in bounds base k part = take (bound bounds (k + 1) - bound bounds k) (drop (bound bounds k - base) part)

-- what holds of bounds and workers through all shares
pub record IsSound (bounds : List ℕ) (workers : ℕ) : Type 0 where
  pub some : 0 < length bounds
  pub ascending : IsAscending bounds
  pub workers_low : 0 < workers
  pub workers_high : workers < 4294967296

-- so many tiles from one on, in the part that holds them
pub record IsPart (bounds : List ℕ) (first count : ℕ) (part : List ℕ) : Type 0 where
  pub inside : first + count < length bounds
  pub size : length part ≡ bound bounds (first + count) - bound bounds first

-- each of them is one that may be taken under its number
pub record PartTaken (Takes : ℕ → List ℕ → Type 0) (bounds : List ℕ) (first count : ℕ) (part : List ℕ) : Type 0 where
  pub is : IsPart bounds first count part
  pub each : (k : ℕ) → first ≤ k → k < first + count → Takes k (tile_in bounds (bound bounds first) k part)

-- each of them is done
pub record PartDone {A : Type 0} (Does : ℕ → List ℕ → List ℕ → A → Type 0) (bounds : List ℕ) (first : ℕ) (old new : List ℕ) (answers : List A) : Type 0 where
  pub size : length new ≡ length old
  pub each :
      (k : ℕ) (d : A) → first ≤ k → k < first + length answers
      → Does k (tile_in bounds (bound bounds first) k old) (tile_in bounds (bound bounds first) k new) (get_or answers (k - first) d)

-- so many shares from one on have so many tiles from one on
pub record AreShares (bounds : List ℕ) (workers share shares first count : ℕ) : Type 0 where
  pub some : 0 < shares
  pub high : share + shares ≤ workers
  pub begin : first ≡ first_tile (length bounds - 1) workers share
  pub end : first + count ≡ first_tile (length bounds - 1) workers (share + shares)

-- the first so many are done, and what stands behind them is as it was
pub record DoneBelow {A : Type 0} (Does : ℕ → List ℕ → List ℕ → A → Type 0) (bounds : List ℕ) (first i : ℕ) (old new : List ℕ) (answers : List A) : Type 0 where
  pub size : length new ≡ length old
  pub rest : drop (bound bounds (first + i) - bound bounds first) new ≡ drop (bound bounds (first + i) - bound bounds first) old
  pub each :
      (k : ℕ) (d : A) → first ≤ k → k < first + i
      → Does k (tile_in bounds (bound bounds first) k old) (tile_in bounds (bound bounds first) k new) (get_or answers (k - first) d)

-- the first tile of the second of two halves
pub record IsCut (bounds : List ℕ) (first count next : ℕ) : Type 0 where
  pub low : first ≤ next
  pub high : next ≤ first + count
  pub inside : next < length bounds
  pub place_low : bound bounds first ≤ bound bounds next
  pub place_high : bound bounds next ≤ bound bounds (first + count)

-- Marks for the cells of a grid, row by row: how many boxes of cells have each.
use Rattle.std.specs.Prelude.{◌≡◌, ℕ, ◌+◌, ◌*◌, ◌<◌, ◌≤◌, ◌&&◌, true, cond, nat_le, nat_lt, List, slice_index}
use Rattle.std.specs.List.{count_by}
use Rattle.dpx_packing.specs.declared.tile.Tile.{Tile}
use Rattle.dpx_packing.specs.Tiles.{has_place}

-- each place from one to another is marked once more
pub record MarksSpan (from to : ℕ) (old new : List ℕ) : Type 0 where
  pub each : (k : ℕ) → slice_index new k ≡ slice_index old k + cond (nat_le from k && nat_lt k to) 1 0

-- a place between them is marked
pub record HasMark (from to : ℕ) (marks : List ℕ) : Type 0 where
  pub place : ℕ
  pub low : from ≤ place
  pub high : place < to
  pub marked : 1 ≤ slice_index marks place

-- each cell of a box is marked once more
pub record MarksBox (columns : ℕ) (box : Tile) (old new : List ℕ) : Type 0 where
  pub each : (x y : ℕ) → x < columns → slice_index new (y * columns + x) ≡ slice_index old (y * columns + x) + cond (has_place x y box) 1 0

-- a cell of the box is marked
pub record HasMarked (columns : ℕ) (box : Tile) (marks : List ℕ) : Type 0 where
  pub x : ℕ
  pub y : ℕ
  pub low : x < columns
  pub has : has_place x y box ≡ true
  pub marked : 1 ≤ slice_index marks (y * columns + x)

-- the marks are how many boxes have each cell
pub record Counts (columns : ℕ) (marks : List ℕ) (boxes : List Tile) : Type 0 where
  pub each : (x y : ℕ) → x < columns → slice_index marks (y * columns + x) ≡ count_by (λ box. has_place x y box) boxes

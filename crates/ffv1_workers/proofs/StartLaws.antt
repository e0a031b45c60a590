-- Where tiles begin, one after another.
use Rattle.std.proofs.Common.{◌≡◌, ◌≢◌, ℕ, ◌+◌, ◌*◌, ◌<◌, ◌≤◌, inl, inr, List, length, take, set, get_or, ◌∙◌, subst, arith, get_or-set_same, get_or-set_other}
use Rattle.std.specs.List.{sum_by}
use Rattle.std.proofs.Math.Nat.{mul-le-mul_left}
use Rattle.std.proofs.lemmas.Bool.{cases_lt}
use Rattle.std.proofs.lemmas.List.{get_or-map, length-map}
use Rattle.std.proofs.lemmas.List.FromFn.{length-map-range_with_len, get_or-map-range_with_len}
use Rattle.std.proofs.lemmas.List.Sums.{sum_by_more}
use Rattle.dpx_packing.specs.declared.tile.Tile.{Tile}
use Rattle.dpx_packing.specs.Tiles.{tile_at, tile_size}
use Rattle.ffv1_frame.specs.declared.cells.Grid.{Grid}
use Rattle.ffv1_frame.specs.declared.part.Part.{Part}
use Rattle.ffv1_frame.specs.Grid.{tile_of}
use Rattle.ffv1_frame.specs.Parts.{tiles_of}
use Rattle.ffv1_frame.specs.Written.{film_head}
use Rattle.ffv1_workers.specs.Frames.{StartsBelow, AreStarts, row_tiles}

abbrev no_tile : Tile
no_tile = record { x = 0; y = 0; width = 0; height = 0 }

-- ---- the tiles of parts, and of rows

pub long : (grid : Grid) (parts : List Part) → length (tiles_of grid parts) ≡ length parts
long grid parts = length-map parts (λ (p : Part). tile_of grid p.head)

pub tile-at : (grid : Grid) (parts : List Part) (k : ℕ) (d : Part) → k < length parts → tile_at (tiles_of grid parts) k ≡ tile_of grid (get_or parts k d).head
tile-at grid parts k d listed = get_or-map (λ (p : Part). tile_of grid p.head) parts k d (record { x = 0; y = 0; width = 0; height = 0 }) listed

pub rows-long : (grid : Grid) → length (row_tiles grid) ≡ grid.rows
rows-long grid = length-map-range_with_len (λ row. tile_of grid (film_head row)) 0 grid.rows

pub row-tile-at : (grid : Grid) (k : ℕ) → k < grid.rows → tile_at (row_tiles grid) k ≡ tile_of grid (film_head k)
row-tile-at grid k low = get_or-map-range_with_len (λ row. tile_of grid (film_head row)) 0 grid.rows k k (record { x = 0; y = 0; width = 0; height = 0 }) low (omega arith)

-- ---- the loop over them

-- a side of at most 16,384 pixels either way
pub few-samples : (wide high : ℕ) → wide ≤ 16384 → high ≤ 16384 → high * (3 * wide) ≤ 805306368
few-samples wide high w h =
    let a : high * (3 * wide) ≤ high * 49152 = mul-le-mul_left high (omega arith) in
    omega arith

-- the tiles before the next one
pub sum-next : (tiles : List Tile) (i at size : ℕ) → i < length tiles → at ≡ sum_by tile_size (take i tiles) → size ≡ tile_size (tile_at tiles i) → at + size ≡ sum_by tile_size (take (i + 1) tiles)
sum-next tiles i at size listed at_is size_is =
    let more : sum_by tile_size (take (i + 1) tiles) ≡ sum_by tile_size (take i tiles) + tile_size (tile_at tiles i) = sum_by_more tile_size tiles i no_tile listed in
    omega (arith, more, at_is, size_is)

pub starts-none : (tiles : List Tile) (bounds : List ℕ) → 0 < length bounds → StartsBelow tiles 0 (set bounds 0 0)
starts-none tiles bounds some =
    record {
      each = λ k low.
          let zero : 0 ≡ k = omega arith in
          let P : ℕ → Type 0 = λ j. get_or (set bounds 0 0) j 0 ≡ sum_by tile_size (take j tiles) in
          subst P zero (get_or-set_same bounds 0 0 0 some);
    }

pub starts-more : (tiles : List Tile) (bounds : List ℕ) (i at : ℕ) → i + 1 < length bounds → at ≡ sum_by tile_size (take (i + 1) tiles) → StartsBelow tiles i bounds → StartsBelow tiles (i + 1) (set bounds (i + 1) at)
starts-more tiles bounds i at listed is below =
    record {
      each = λ k low.
          elim (cases_lt k (i + 1)) [
            | inl before ↦
                let ne : k ≢ i + 1 = omega arith in
                get_or-set_other bounds (i + 1) k at 0 ne ∙ below.each k (omega arith)
            | inr past ↦
                let here : i + 1 ≡ k = omega arith in
                let P : ℕ → Type 0 = λ j. get_or (set bounds (i + 1) at) j 0 ≡ sum_by tile_size (take j tiles) in
                subst P here (get_or-set_same bounds (i + 1) at 0 listed ∙ is)
          ];
    }

pub starts-all : (tiles : List Tile) (bounds : List ℕ) (i count : ℕ) → length tiles ≡ count → length bounds ≡ count + 1 → count ≤ i → StartsBelow tiles i bounds → AreStarts tiles bounds
starts-all tiles bounds i count long_is size all below = record { size = omega arith; each = λ k low. below.each k (omega arith) }

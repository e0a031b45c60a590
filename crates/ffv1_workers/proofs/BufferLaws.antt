-- The samples of tiles in a buffer, tile after tile.
use Rattle.std.proofs.Common.{◌≡◌, ℕ, zero, suc, ◌+◌, ◌-◌, ◌*◌, ◌<◌, ◌≤◌, List, [], ◌∷◌, ◌++◌, length, take, drop, All, sym, ◌∙◌, ap, ap₂, arith}
use Rattle.std.specs.List.{flat_map, sum_by}
use Rattle.std.proofs.Math.Seq.{take-append_seam, drop-append-add}
use Rattle.std.proofs.lemmas.List.{take_all}
use Rattle.std.proofs.lemmas.List.Concat.{flat_map-cons}
use Rattle.std.proofs.lemmas.List.Elements.{All-head, All-tail, All-weaker}
use Rattle.std.proofs.lemmas.List.Sums.{sum_by-cons, sum_by_more}
use Rattle.dpx_packing.specs.declared.tile.Tile.{Tile}
use Rattle.dpx_packing.specs.TileLaws.{TilesFill, TilesHoldTheirPixels, HoldsItsPixels}
use Rattle.dpx_packing.specs.Tiles.{CoverOnce, IsInside, tile_at, tile_size, tile_samples, tile_after_tile}
use Rattle.slice_pool.specs.Tiles.{bound, AreBounds}
use Rattle.slice_pool.specs.Tiles as pool
use Rattle.ffv1_workers.specs.Frames.{AreStarts, samples_at}

abbrev no_tile : Tile
no_tile = record { x = 0; y = 0; width = 0; height = 0 }

-- ---- bounds

sums-up : (tiles : List Tile) (i j : ℕ) → i ≤ j → sum_by tile_size (take i tiles) ≤ sum_by tile_size (take j tiles)
sums-up tiles zero j up = omega arith
sums-up [] (suc i) zero up = absurd (omega arith)
sums-up [] (suc i) (suc j) up = omega arith
sums-up (tile ∷ tiles) (suc i) zero up = absurd (omega arith)
sums-up (tile ∷ tiles) (suc i) (suc j) up =
    let rest : sum_by tile_size (take i tiles) ≤ sum_by tile_size (take j tiles) = sums-up tiles i j (omega arith) in
    let a : sum_by tile_size (tile ∷ take i tiles) ≡ tile_size tile + sum_by tile_size (take i tiles) = sum_by-cons tile_size tile (take i tiles) in
    let b : sum_by tile_size (tile ∷ take j tiles) ≡ tile_size tile + sum_by tile_size (take j tiles) = sum_by-cons tile_size tile (take j tiles) in
    omega (arith, rest, a, b)

pub bound-next : (tiles : List Tile) (bounds : List ℕ) (k : ℕ) → AreStarts tiles bounds → k < length tiles → bound bounds (k + 1) ≡ bound bounds k + tile_size (tile_at tiles k)
bound-next tiles bounds k starts listed =
    let here : bound bounds k ≡ sum_by tile_size (take k tiles) = starts.each k (omega arith) in
    let next : bound bounds (k + 1) ≡ sum_by tile_size (take (k + 1) tiles) = starts.each (k + 1) (omega arith) in
    let more : sum_by tile_size (take (k + 1) tiles) ≡ sum_by tile_size (take k tiles) + tile_size (tile_at tiles k) = sum_by_more tile_size tiles k no_tile listed in
    omega (arith, here, next, more)

-- the bounds of tiles that cover a picture are bounds of its buffer
pub are-bounds : TilesFill → (across down : ℕ) (tiles : List Tile) (bounds : List ℕ) (len count : ℕ) → CoverOnce across down tiles → AreStarts tiles bounds → len ≡ 3 * across * down → count ≡ length tiles
    → AreBounds bounds len count
are-bounds fill across down tiles bounds len count cover starts len_is count_is =
    let size : length bounds ≡ length tiles + 1 = starts.size in
    let none : bound bounds 0 ≡ 0 = starts.each 0 (omega arith) in
    let all : bound bounds count ≡ sum_by tile_size (take count tiles) = starts.each count (omega arith) in
    let whole : sum_by tile_size (take count tiles) ≡ sum_by tile_size tiles = ap (sum_by tile_size) (take_all count tiles (omega arith)) in
    let filled : sum_by tile_size tiles ≡ 3 * across * down = fill across down tiles cover in
    record {
      size = omega (arith, size, count_is);
      first = none;
      last = all ∙ whole ∙ filled ∙ sym len_is;
      ascending = λ i j up low.
          let a : bound bounds i ≡ sum_by tile_size (take i tiles) = starts.each i (omega arith) in
          let b : bound bounds j ≡ sum_by tile_size (take j tiles) = starts.each j (omega arith) in
          let sums : sum_by tile_size (take i tiles) ≤ sum_by tile_size (take j tiles) = sums-up tiles i j up in
          omega (arith, a, b, sums);
    }

-- ---- samples

pub tile-is : (tiles : List Tile) (bounds buffer : List ℕ) (k : ℕ) → AreStarts tiles bounds → k < length tiles → pool.tile_of bounds k buffer ≡ samples_at tiles k buffer
tile-is tiles bounds buffer k starts listed =
    let here : bound bounds k ≡ sum_by tile_size (take k tiles) = starts.each k (omega arith) in
    let next : bound bounds (k + 1) ≡ bound bounds k + tile_size (tile_at tiles k) = bound-next tiles bounds k starts listed in
    let wide : bound bounds (k + 1) - bound bounds k ≡ tile_size (tile_at tiles k) = omega (arith, next) in
    ap₂ (λ (n m : ℕ). take n (drop m buffer)) wide here

piece : (f : Tile → List ℕ) (tiles : List Tile) (k : ℕ) → k < length tiles → All (λ t. length (f t) ≡ tile_size t) tiles
    → take (tile_size (tile_at tiles k)) (drop (sum_by tile_size (take k tiles)) (flat_map f tiles)) ≡ f (tile_at tiles k)
piece f [] k listed sizes = absurd (omega arith)
piece f (tile ∷ tiles) zero listed sizes =
    let size : length (f tile) ≡ tile_size tile = All-head (λ t. length (f t) ≡ tile_size t) tile tiles sizes in
    ap (λ xs. take (tile_size tile) xs) (flat_map-cons f tile tiles)
    ∙ ap (λ n. take n (f tile ++ flat_map f tiles)) (sym size)
    ∙ take-append_seam (f tile) (flat_map f tiles)
piece f (tile ∷ tiles) (suc k) listed sizes =
    let size : length (f tile) ≡ tile_size tile = All-head (λ t. length (f t) ≡ tile_size t) tile tiles sizes in
    let sum : sum_by tile_size (tile ∷ take k tiles) ≡ length (f tile) + sum_by tile_size (take k tiles) = sum_by-cons tile_size tile (take k tiles) ∙ ap (λ n. n + sum_by tile_size (take k tiles)) (sym size) in
    ap₂ (λ (n : ℕ) (xs : List ℕ). take (tile_size (tile_at tiles k)) (drop n xs)) sum (flat_map-cons f tile tiles)
    ∙ ap (λ xs. take (tile_size (tile_at tiles k)) xs) (drop-append-add (f tile) (flat_map f tiles) (sum_by tile_size (take k tiles)))
    ∙ piece f tiles k (omega arith) (All-tail (λ t. length (f t) ≡ tile_size t) tile tiles sizes)

pub samples-of : TilesHoldTheirPixels → (across down : ℕ) (tiles : List Tile) (picture : List ℕ) (k : ℕ) → CoverOnce across down tiles → length picture ≡ 3 * across * down → k < length tiles
    → samples_at tiles k (tile_after_tile across tiles picture) ≡ tile_samples across picture (tile_at tiles k)
unfolding tile_after_tile
samples-of hold across down tiles picture k cover size listed =
    piece (tile_samples across picture) tiles k listed
    (All-weaker (λ t. IsInside across down t) (λ t. length (tile_samples across picture t) ≡ tile_size t)
    (λ t inside. let holds : HoldsItsPixels across picture t = hold across down picture t inside size in holds.size) tiles cover.inside)

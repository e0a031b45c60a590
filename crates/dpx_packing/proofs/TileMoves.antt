-- A tile put into a picture line by line, and what that leaves of the other tiles.
use Rattle.std.proofs.Common.{◌≡◌, ℕ, ◌+◌, ◌-◌, ◌*◌, ◌/◌, ◌%◌, ◌<◌, ◌≤◌, Bool, true, false, cond, ◌⊎◌, inl, inr, List, [], ◌∷◌, ◌++◌, length, take, drop, get_or, All, refl, sym, ◌∙◌, ap, ap₂, arith, min, length-drop, length-take}
use Rattle.std.proofs.Math.Nat.{div-add-mod}
use Rattle.std.proofs.lemmas.Nat.{mod_below}
use Rattle.std.proofs.lemmas.Bool.{cases_Bool}
use Rattle.std.proofs.lemmas.List.Elements.{All-head, All-tail, All-take, All-get_or}
use Rattle.std.proofs.lemmas.List.{ext_get_or, get_or-take, get_or-drop, take_more, take_all, append-nil}
use Rattle.std.proofs.lemmas.List.Sums.{sum_by-cons, sum_by_more, sum_by_more_le}
use Rattle.std.proofs.lemmas.Grind.{flat_map-append}
use Rattle.std.specs.List.{between, count_by, flat_map, sum_by}
use Rattle.std.proofs.lemmas.Slice.{take-put_mid}
use borrow.Rule.Slice.PartMut.{put_mid}
use Rattle.dpx_packing.specs.declared.tile.Tile.{Tile}
use Rattle.dpx_packing.specs.Tiles.{CoverOnce, IsInside, has_place, lines_joined, place_of, tile_after_tile, tile_at, tile_line, tile_samples, tile_size}
use Rattle.dpx_packing.specs.Moves.{KeepsOthers}
use Rattle.dpx_packing.proofs.TileLines.{take-plus, joined-more, joined-same, part-below, part-at, place-kept, length-put, between-part}
use Rattle.dpx_packing.proofs.TileSums.{sizes-sum}
use Rattle.dpx_packing.proofs.TilePlaces.{has_back, line-after, outside}

-- ---- one line more

pub put-more : (across down row to : ℕ) (tile : Tile) (samples part new : List ℕ) → IsInside across down tile
    → lines_joined (tile_line across samples tile) row ≡ take (row * (3 * tile.width)) part
    → to ≡ place_of across tile.x (tile.y + row) 0 → to + 3 * tile.width ≤ length samples
    → new ≡ between (row * (3 * tile.width)) (row * (3 * tile.width) + 3 * tile.width) part → length new ≡ 3 * tile.width
    → lines_joined (tile_line across (put_mid to (to + 3 * tile.width - to) samples new) tile) (row + 1)
    ≡ take ((row + 1) * (3 * tile.width)) part
put-more across down row to tile samples part new inside so_far at room is long =
    let wide : ℕ = 3 * tile.width in
    let old_line : ℕ → List ℕ = tile_line across samples tile in
    let new_line : ℕ → List ℕ = tile_line across (put_mid to (to + 3 * tile.width - to) samples new) tile in
    let before : (r : ℕ) → r < row → new_line r ≡ old_line r = λ r low.
    part-below (place_of across tile.x (tile.y + r) 0) (3 * tile.width) to (to + 3 * tile.width - to) samples new
    (let after = line-after across tile.x tile.y tile.width r row inside.across_high low in omega arith) (omega arith)
    in
    let here : new_line row ≡ new =
    ap (λ n. take (3 * tile.width) (drop n (put_mid to (to + 3 * tile.width - to) samples new))) (sym at)
    ∙ part-at (3 * tile.width) to samples new (omega arith) long
    in
    let end : row * (3 * tile.width) + 3 * tile.width ≡ (row + 1) * (3 * tile.width) = omega arith in
    joined-more new_line row
    ∙ ap₂ (λ (a b : List ℕ). a ++ b) (joined-same new_line old_line row before ∙ so_far) (here ∙ is ∙ between-part (row * (3 * tile.width)) (3 * tile.width) part)
    ∙ sym (take-plus (row * (3 * tile.width)) (3 * tile.width) part)
    ∙ ap (λ n. take n part) end

-- a pixel that isn't in the tile stands before or behind each of its lines
sides : (across x y colour to row : ℕ) (tile : Tile) → x < across → colour < 3 → tile.x + tile.width ≤ across
    → row < tile.height → to ≡ place_of across tile.x (tile.y + row) 0 → has_place x y tile ≡ false
    → (place_of across x y colour < to) ⊎ (to + (to + 3 * tile.width - to) ≤ place_of across x y colour)
sides across x y colour to row tile x_low colour_low in_line row_low at out =
    let never : tile.x ≤ x → x < tile.x + tile.width → tile.y ≤ y → y < tile.y + tile.height → ⊥ = λ left right top bottom.
    let holds : has_place x y tile ≡ true = has_back x y tile (record { left = left; right = right; top = top; bottom = bottom }) in
    cc
    in
    elim (outside across x y colour tile.x tile.y tile.width tile.height row x_low colour_low in_line row_low never) [
      | inl before ↦ inl (omega arith)
      | inr behind ↦ inr (omega arith)
    ]

pub kept-none : (across : ℕ) (tile : Tile) (samples : List ℕ) → KeepsOthers across tile samples samples
kept-none across tile samples = record { size = refl; each = λ x y colour x_low colour_low out. refl }

pub kept-more : (across down row to : ℕ) (tile : Tile) (old samples new : List ℕ) → IsInside across down tile
    → KeepsOthers across tile old samples → row < tile.height → to ≡ place_of across tile.x (tile.y + row) 0
    → to + 3 * tile.width ≤ length samples → length new ≡ 3 * tile.width
    → KeepsOthers across tile old (put_mid to (to + 3 * tile.width - to) samples new)
kept-more across down row to tile old samples new inside kept row_low at room long =
    let k : to + 3 * tile.width - to ≡ 3 * tile.width = omega arith in
    record {
      size = length-put to (to + 3 * tile.width - to) samples new (omega arith) (long ∙ sym k) ∙ kept.size;
      each = λ x y colour x_low colour_low out.
          place-kept to (to + 3 * tile.width - to) (place_of across x y colour) samples new (omega arith) (long ∙ sym k)
          (sides across x y colour to row tile x_low colour_low inside.across_high row_low at out)
          ∙ kept.each x y colour x_low colour_low out;
    }

-- ---- the other tiles

-- no pixel of the picture is both in the tile and in one of the others
pub record Apart (across down : ℕ) (tile : Tile) (tiles : List Tile) : Type 0 where
  pub each :
      (x y : ℕ) → x < across → y < down
      → count_by (λ t. has_place x y t) tiles + cond (has_place x y tile) 1 0 ≤ 1

apart-head : (across down : ℕ) (tile other : Tile) (tiles : List Tile) → Apart across down tile (other ∷ tiles)
    → (x y : ℕ) → x < across → y < down → has_place x y other ≡ true → has_place x y tile ≡ false
apart-head across down tile other tiles apart x y x_low y_low holds =
    elim (cases_Bool (has_place x y tile)) [
      | inl both ↦
          let count : count_by (λ t. has_place x y t) (other ∷ tiles) ≡ cond (has_place x y other) 1 0 + count_by (λ t. has_place x y t) tiles =
          sum_by-cons (λ t. cond (has_place x y t) 1 0) other tiles in
          let first : cond {A = ℕ} (has_place x y other) 1 0 ≡ 1 = ap (λ (b : Bool). cond {A = ℕ} b 1 0) holds in
          let second : cond {A = ℕ} (has_place x y tile) 1 0 ≡ 1 = ap (λ (b : Bool). cond {A = ℕ} b 1 0) both in
          absurd (omega (arith, apart.each x y x_low y_low))
      | inr never ↦ never
    ]

apart-rest : (across down : ℕ) (tile other : Tile) (tiles : List Tile) → Apart across down tile (other ∷ tiles)
    → Apart across down tile tiles
apart-rest across down tile other tiles apart = record {
  each = λ x y x_low y_low.
      let count : count_by (λ t. has_place x y t) (other ∷ tiles) ≡ cond (has_place x y other) 1 0 + count_by (λ t. has_place x y t) tiles =
      sum_by-cons (λ t. cond (has_place x y t) 1 0) other tiles in
      omega (arith, apart.each x y x_low y_low);
}

-- a tile apart from the one that was put in is as it was
kept-tile : (across down : ℕ) (tile other : Tile) (tiles : List Tile) (old new : List ℕ) → IsInside across down other
    → Apart across down tile (other ∷ tiles) → KeepsOthers across tile old new
    → tile_samples across new other ≡ tile_samples across old other
unfolding tile_samples
kept-tile across down tile other tiles old new inside apart kept =
    joined-same (tile_line across new other) (tile_line across old other) other.height (λ r low.
    let at : ℕ = place_of across other.x (other.y + r) 0 in
    let long_new : length (take (3 * other.width) (drop at new)) ≡ min (3 * other.width) (length new - at) =
    length-take (3 * other.width) (drop at new) ∙ ap (min (3 * other.width)) (length-drop at new) in
    let long_old : length (take (3 * other.width) (drop at old)) ≡ min (3 * other.width) (length old - at) =
    length-take (3 * other.width) (drop at old) ∙ ap (min (3 * other.width)) (length-drop at old) in
    let long : length (take (3 * other.width) (drop at new)) ≡ length (take (3 * other.width) (drop at old)) =
    long_new ∙ ap (λ n. min (3 * other.width) (n - at)) kept.size ∙ sym long_old in
    ext_get_or 0 (take (3 * other.width) (drop at new)) (take (3 * other.width) (drop at old)) long (λ i i_low.
    let i_high : i < 3 * other.width = omega arith in
    let column : ℕ = i / 3 in
    let colour : ℕ = i % 3 in
    let parts : 3 * (i / 3) + i % 3 ≡ i = div-add-mod i 3 in
    let colour_low : i % 3 < 3 = mod_below i 3 (omega arith) in
    let column_low : i / 3 < other.width = omega arith in
    let place : at + i ≡ place_of across (other.x + i / 3) (other.y + r) (i % 3) = omega arith in
    let holds : has_place (other.x + i / 3) (other.y + r) other ≡ true =
    has_back (other.x + i / 3) (other.y + r) other (record { left = omega arith; right = omega arith; top = omega arith; bottom = omega arith }) in
    let right : other.x + other.width ≤ across = inside.across_high in
    let bottom : other.y + other.height ≤ down = inside.down_high in
    let x_low : other.x + i / 3 < across = omega arith in
    let y_low : other.y + r < down = omega arith in
    let never : has_place (other.x + i / 3) (other.y + r) tile ≡ false =
    apart-head across down tile other tiles apart (other.x + i / 3) (other.y + r) x_low y_low holds in
    get_or-take (3 * other.width) (drop at new) i 0 i_high
    ∙ get_or-drop at new i 0
    ∙ ap (λ n. get_or new n 0) place
    ∙ kept.each (other.x + i / 3) (other.y + r) (i % 3) x_low colour_low never
    ∙ ap (λ n. get_or old n 0) (sym place)
    ∙ sym (get_or-drop at old i 0)
    ∙ sym (get_or-take (3 * other.width) (drop at old) i 0 i_high)))

-- and so are all of them
pub all-kept : (across down : ℕ) (tile : Tile) (tiles : List Tile) (old new : List ℕ)
    → All (λ t. IsInside across down t) tiles → Apart across down tile tiles → KeepsOthers across tile old new
    → tile_after_tile across tiles new ≡ tile_after_tile across tiles old
unfolding tile_after_tile
all-kept across down tile [] old new inside apart kept = refl
all-kept across down tile (other ∷ tiles) old new inside apart kept =
    ap₂ (λ (a b : List ℕ). a ++ b)
    (kept-tile across down tile other tiles old new (All-head (λ t. IsInside across down t) other tiles inside) apart kept)
    (all-kept across down tile tiles old new (All-tail (λ t. IsInside across down t) other tiles inside) (apart-rest across down tile other tiles apart) kept)

-- ---- one tile more

pub tiles-more : (across i : ℕ) (tiles : List Tile) (samples : List ℕ) → i < length tiles
    → tile_after_tile across (take (i + 1) tiles) samples
    ≡ tile_after_tile across (take i tiles) samples ++ tile_samples across samples (tile_at tiles i)
unfolding tile_after_tile
tiles-more across i tiles samples low =
    ap (flat_map (tile_samples across samples)) (take_more tiles i (record { x = 0; y = 0; width = 0; height = 0 }) low)
    ∙ flat_map-append (tile_samples across samples) (take i tiles) (tile_at tiles i ∷ [])
    ∙ ap (λ l. flat_map (tile_samples across samples) (take i tiles) ++ l) (append-nil (tile_samples across samples (tile_at tiles i)))

-- the tiles before one are apart from it
before-apart : (across down i : ℕ) (tiles : List Tile) → CoverOnce across down tiles → i < length tiles
    → Apart across down (tile_at tiles i) (take i tiles)
before-apart across down i tiles cover low = record {
  each = λ x y x_low y_low.
      let once : count_by (λ t. has_place x y t) tiles ≡ 1 = cover.once x y x_low y_low in
      let both : count_by (λ t. has_place x y t) (take i tiles) + cond {A = ℕ} (has_place x y (tile_at tiles i)) 1 0 ≤ count_by (λ t. has_place x y t) tiles =
      sum_by_more_le (λ t. cond (has_place x y t) 1 0) tiles i (record { x = 0; y = 0; width = 0; height = 0 }) low in
      omega (arith, both, once);
}

pub inside-at : (across down i : ℕ) (tiles : List Tile) → CoverOnce across down tiles → i < length tiles
    → IsInside across down (tile_at tiles i)
inside-at across down i tiles cover low =
    All-get_or (λ t. IsInside across down t) tiles i (record { x = 0; y = 0; width = 0; height = 0 }) low cover.inside

pub end-is : (i at end : ℕ) (tiles : List Tile) → i < length tiles → at ≡ sum_by tile_size (take i tiles)
    → end ≡ at + tile_size (tile_at tiles i) → end ≡ sum_by tile_size (take (i + 1) tiles)
end-is i at end tiles low at_is end_is =
    let more : sum_by tile_size (take (i + 1) tiles) ≡ sum_by tile_size (take i tiles) + tile_size (tile_at tiles i) =
    sum_by_more tile_size tiles i (record { x = 0; y = 0; width = 0; height = 0 }) low in
    omega (arith, more, at_is, end_is)

pub end-high : (across down i at end : ℕ) (tiles : List Tile) → CoverOnce across down tiles → i < length tiles
    → at ≡ sum_by tile_size (take i tiles) → end ≡ at + tile_size (tile_at tiles i) → end ≤ 3 * across * down
end-high across down i at end tiles cover low at_is end_is =
    let all : sum_by tile_size (take i tiles) + tile_size (tile_at tiles i) ≤ sum_by tile_size tiles =
    sum_by_more_le tile_size tiles i (record { x = 0; y = 0; width = 0; height = 0 }) low in
    let size : sum_by tile_size tiles ≡ 3 * across * down = sizes-sum across down tiles cover in
    omega (arith, all, size, at_is, end_is)

-- a buffer that the tiles before one fill is filled by it as far as it goes
pub take-one-more : (across i at end : ℕ) (tiles : List Tile) (samples buffer new : List ℕ) → i < length tiles
    → take at buffer ≡ tile_after_tile across (take i tiles) samples → at ≤ length buffer → end ≡ at + length new
    → new ≡ tile_samples across samples (tile_at tiles i)
    → take end (put_mid at (end - at) buffer new) ≡ tile_after_tile across (take (i + 1) tiles) samples
take-one-more across i at end tiles samples buffer new low so_far room long is =
    take-put_mid at (end - at) buffer new end long room
    ∙ ap₂ (λ (a b : List ℕ). a ++ b) so_far is
    ∙ sym (tiles-more across i tiles samples low)

pub put-one-more : (across down i at end : ℕ) (tiles : List Tile) (old new buffer part : List ℕ)
    → CoverOnce across down tiles → i < length tiles
    → tile_after_tile across (take i tiles) old ≡ take at buffer → tile_samples across new (tile_at tiles i) ≡ part
    → part ≡ between at end buffer → at ≤ end → KeepsOthers across (tile_at tiles i) old new
    → tile_after_tile across (take (i + 1) tiles) new ≡ take end buffer
put-one-more across down i at end tiles old new buffer part cover low so_far put part_is up kept =
    let sum : at + (end - at) ≡ end = omega arith in
    tiles-more across i tiles new low
    ∙ ap₂ (λ (a b : List ℕ). a ++ b)
    (all-kept across down (tile_at tiles i) (take i tiles) old new (All-take (λ t. IsInside across down t) i tiles cover.inside) (before-apart across down i tiles cover low) kept ∙ so_far)
    (put ∙ part_is)
    ∙ sym (take-plus at (end - at) buffer)
    ∙ ap (λ n. take n buffer) sum

-- ---- all tiles

end-of-all : (across down i at : ℕ) (tiles : List Tile) → CoverOnce across down tiles → length tiles ≤ i
    → at ≡ sum_by tile_size (take i tiles) → at ≡ 3 * across * down
end-of-all across down i at tiles cover high at_is =
    at_is ∙ ap (sum_by tile_size) (take_all i tiles high) ∙ sizes-sum across down tiles cover

pub all-taken : (across down i at : ℕ) (tiles : List Tile) (samples buffer : List ℕ) → CoverOnce across down tiles
    → length tiles ≤ i → at ≡ sum_by tile_size (take i tiles)
    → take at buffer ≡ tile_after_tile across (take i tiles) samples → length buffer ≡ 3 * across * down
    → buffer ≡ tile_after_tile across tiles samples
all-taken across down i at tiles samples buffer cover high at_is so_far long =
    let end : at ≡ 3 * across * down = end-of-all across down i at tiles cover high at_is in
    sym (take_all at buffer (omega arith)) ∙ so_far ∙ ap (λ l. tile_after_tile across l samples) (take_all i tiles high)

pub all-put : (across down i at : ℕ) (tiles : List Tile) (samples buffer : List ℕ) → CoverOnce across down tiles
    → length tiles ≤ i → at ≡ sum_by tile_size (take i tiles)
    → tile_after_tile across (take i tiles) samples ≡ take at buffer → length buffer ≡ 3 * across * down
    → tile_after_tile across tiles samples ≡ buffer
all-put across down i at tiles samples buffer cover high at_is so_far long =
    sym (all-taken across down i at tiles samples buffer cover high at_is (sym so_far) long)

pub tiles-none : (across at : ℕ) (tiles : List Tile) (samples buffer : List ℕ)
    → take 0 buffer ≡ tile_after_tile across (take 0 tiles) samples
unfolding tile_after_tile
tiles-none across at tiles samples buffer = refl

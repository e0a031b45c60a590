-- What the samples of tiles are in the picture: pixel by pixel, and as they stand where the tiles have whole lines.
use Rattle.std.proofs.Common.{◌≡◌, ℕ, zero, suc, ◌+◌, ◌-◌, ◌*◌, ◌/◌, ◌%◌, ◌<◌, ◌≤◌, inl, inr, Bool, true, false, ◌&&◌, ◌==◌, cond, List, [], ◌∷◌, ◌++◌, length, take, drop, get_or, All, refl, sym, ◌∙◌, ap, ap₂, arith, length-drop}
use Rattle.std.proofs.Math.Nat.{div-add-mod}
use Rattle.std.proofs.lemmas.Nat.{mod_below, div_below}
use Rattle.std.proofs.lemmas.Bool.{cases_Bool}
use Rattle.std.proofs.lemmas.Bool.Decides.{nat_tests}
use Rattle.std.proofs.lemmas.List.{drop_all, drop_more, drop-drop, take-append-drop, take_at, drop_at, get_or-take, get_or-drop, ext_get_or, length-take-le}
use Rattle.std.proofs.lemmas.List.Elements.{All-head, All-tail, All-get_or}
use Rattle.std.proofs.lemmas.List.Sums.{sum_by-cons}
use Rattle.std.specs.List.{count_by, flat_map}
use Rattle.dpx_packing.specs.declared.tile.Tile.{Tile}
use Rattle.dpx_packing.specs.Tiles.{CoverOnce, IsInside, are_lines, has_lines, has_place, lines_joined, place_of, tile_after_tile, tile_at, tile_line, tile_samples, tile_size}
use Rattle.dpx_packing.specs.TileLaws.{HoldsItsPixels}
use Rattle.dpx_packing.proofs.TileLines.{take-plus, copied-none, joined-at, length-joined}
use Rattle.dpx_packing.proofs.TilePlaces.{Has, has, line-high}

-- ---- whole lines

both : (b c : Bool) → (b && c) ≡ true → (b ≡ true) × (c ≡ true)
both true c h = (refl, h)
both false c h = absurd (cc)

-- a tile of whole lines
pub record IsWhole (across from : ℕ) (tile : Tile) : Type 0 where
  pub left : tile.x ≡ 0
  pub width : tile.width ≡ across
  pub top : tile.y ≡ from

pub is-whole : (across from : ℕ) (tile : Tile) → has_lines across from tile ≡ true → IsWhole across from tile
is-whole across from tile h = record {
  left = grind (arith, nat_tests);
  width = grind (arith, nat_tests);
  top = grind (arith, nat_tests);
}

lines-of-whole : (across from n : ℕ) (tile : Tile) (xs : List ℕ) → IsWhole across from tile
    → lines_joined (tile_line across xs tile) n ≡ take (n * (3 * across)) (drop (from * (3 * across)) xs)
unfolding lines_joined
lines-of-whole across from zero tile xs whole =
    sym (copied-none (tile_line across xs tile) (3 * across) (drop (from * (3 * across)) xs))
lines-of-whole across from (suc n) tile xs whole =
    let line : ℕ = 3 * across in
    let place : place_of across tile.x (tile.y + n) 0 ≡ from * (3 * across) + n * (3 * across) =
    ap₂ (λ (y x : ℕ). 3 * ((y + n) * across + x) + 0) whole.top whole.left ∙ omega arith in
    let end : n * (3 * across) + 3 * across ≡ suc n * (3 * across) = omega arith in
    ap₂ (λ (a b : List ℕ). a ++ b) (lines-of-whole across from n tile xs whole)
    (ap₂ (λ (w p : ℕ). take (3 * w) (drop p xs)) whole.width place
    ∙ ap (take (3 * across)) (sym (drop-drop (n * (3 * across)) (from * (3 * across)) xs)))
    ∙ sym (take-plus (n * (3 * across)) (3 * across) (drop (from * (3 * across)) xs))
    ∙ ap (λ m. take m (drop (from * (3 * across)) xs)) end

lines-stand-from : (across down from : ℕ) (tiles : List Tile) (xs : List ℕ) → are_lines across down from tiles ≡ true
    → length xs ≡ 3 * across * down → tile_after_tile across tiles xs ≡ drop (from * (3 * across)) xs
unfolding are_lines tile_after_tile tile_samples
lines-stand-from across down from [] xs lines long =
    let end : from ≡ down = grind (arith, nat_tests) in
    let all : from * (3 * across) ≡ down * (3 * across) = ap (λ n. n * (3 * across)) end in
    sym (drop_all (from * (3 * across)) xs (omega arith))
lines-stand-from across down from (tile ∷ tiles) xs lines long =
    let parts : (has_lines across from tile ≡ true) × (are_lines across down (from + tile.height) tiles ≡ true) =
    both (has_lines across from tile) (are_lines across down (from + tile.height) tiles) lines in
    let whole : IsWhole across from tile = is-whole across from tile parts.0 in
    let size : ℕ = tile.height * (3 * across) in
    let end : (from + tile.height) * (3 * across) ≡ from * (3 * across) + tile.height * (3 * across) = omega arith in
    ap₂ (λ (a b : List ℕ). a ++ b) (lines-of-whole across from tile.height tile xs whole)
    (lines-stand-from across down (from + tile.height) tiles xs parts.1 long
    ∙ ap (λ n. drop n xs) end
    ∙ sym (drop-drop (tile.height * (3 * across)) (from * (3 * across)) xs))
    ∙ take-append-drop (tile.height * (3 * across)) (drop (from * (3 * across)) xs)

pub lines-stand : (across down : ℕ) (tiles : List Tile) (xs : List ℕ) → are_lines across down 0 tiles ≡ true
    → length xs ≡ 3 * across * down → tile_after_tile across tiles xs ≡ xs
lines-stand across down tiles xs lines long =
    let none : 0 * (3 * across) ≡ 0 = omega arith in
    lines-stand-from across down 0 tiles xs lines long ∙ ap (λ n. drop n xs) none

-- one tile more of whole lines, or one that isn't
pub lines-step : (across down from i : ℕ) (tiles : List Tile) → i < length tiles
    → has_lines across from (tile_at tiles i) ≡ true
    → are_lines across down from (drop i tiles) ≡ are_lines across down (from + (tile_at tiles i).height) (drop (i + 1) tiles)
unfolding are_lines
lines-step across down from i tiles low holds =
    ap (are_lines across down from) (drop_more tiles i (record { x = 0; y = 0; width = 0; height = 0 }) low)
    ∙ ap (λ b. b && are_lines across down (from + (tile_at tiles i).height) (drop (i + 1) tiles)) holds

pub lines-stop : (across down from i : ℕ) (tiles : List Tile) → i < length tiles
    → has_lines across from (tile_at tiles i) ≡ false → are_lines across down from (drop i tiles) ≡ false
unfolding are_lines
lines-stop across down from i tiles low fails =
    ap (are_lines across down from) (drop_more tiles i (record { x = 0; y = 0; width = 0; height = 0 }) low)
    ∙ ap (λ b. b && are_lines across down (from + (tile_at tiles i).height) (drop (i + 1) tiles)) fails

pub lines-end : (across down from i : ℕ) (tiles : List Tile) (last : Bool) → length tiles ≤ i
    → last ≡ (from == down) → last ≡ are_lines across down from (drop i tiles)
unfolding are_lines
lines-end across down from i tiles last high is =
    is ∙ sym (ap (are_lines across down from) (drop_all i tiles high))

-- the tile ends in the picture where it begins at the height
pub next-low : (across down from i : ℕ) (tiles : List Tile) → All (λ t. IsInside across down t) tiles → i < length tiles
    → has_lines across from (tile_at tiles i) ≡ true → from + (tile_at tiles i).height ≤ down
next-low across down from i tiles inside low holds =
    let here : IsInside across down (tile_at tiles i) =
    All-get_or (λ t. IsInside across down t) tiles i (record { x = 0; y = 0; width = 0; height = 0 }) low inside in
    let end : (tile_at tiles i).y + (tile_at tiles i).height ≤ down = here.down_high in
    let whole : IsWhole across from (tile_at tiles i) = is-whole across from (tile_at tiles i) holds in
    let top : (tile_at tiles i).y ≡ from = whole.top in
    omega (arith, end, top)

-- ---- pixel by pixel

line-long : (across down : ℕ) (tile : Tile) (xs : List ℕ) → IsInside across down tile → length xs ≡ 3 * across * down
    → (r : ℕ) → r < tile.height → length (tile_line across xs tile r) ≡ 3 * tile.width
line-long across down tile xs inside long r low =
    let high = line-high across down tile.x tile.y tile.width tile.height r inside.across_high inside.down_high low in
    let rest : length (drop (place_of across tile.x (tile.y + r) 0) xs) ≡ length xs - place_of across tile.x (tile.y + r) 0 =
    length-drop (place_of across tile.x (tile.y + r) 0) xs in
    length-take-le (3 * tile.width) (drop (place_of across tile.x (tile.y + r) 0) xs) (omega arith)

pub length-tile : (across down : ℕ) (tile : Tile) (xs : List ℕ) → IsInside across down tile → length xs ≡ 3 * across * down
    → length (tile_samples across xs tile) ≡ tile_size tile
unfolding tile_samples
length-tile across down tile xs inside long =
    length-joined (tile_line across xs tile) (3 * tile.width) tile.height (line-long across down tile xs inside long)

pub pixel-at : (across down : ℕ) (tile : Tile) (xs : List ℕ) → IsInside across down tile → length xs ≡ 3 * across * down
    → (x y colour : ℕ) → x < tile.width → y < tile.height → colour < 3
    → get_or (tile_samples across xs tile) (place_of tile.width x y colour) 0
    ≡ get_or xs (place_of across (tile.x + x) (tile.y + y) colour) 0
unfolding tile_samples
pixel-at across down tile xs inside long x y colour x_low y_low colour_low =
    let in_tile : place_of tile.width x y colour ≡ y * (3 * tile.width) + (3 * x + colour) = omega arith in
    let in_picture : place_of across tile.x (tile.y + y) 0 + (3 * x + colour) ≡ place_of across (tile.x + x) (tile.y + y) colour = omega arith in
    let in_line : 3 * x + colour < 3 * tile.width = omega arith in
    ap (λ n. get_or (lines_joined (tile_line across xs tile) tile.height) n 0) in_tile
    ∙ joined-at (tile_line across xs tile) (3 * tile.width) tile.height y (3 * x + colour) (line-long across down tile xs inside long) y_low in_line
    ∙ get_or-take (3 * tile.width) (drop (place_of across tile.x (tile.y + y) 0) xs) (3 * x + colour) 0 in_line
    ∙ get_or-drop (place_of across tile.x (tile.y + y) 0) xs (3 * x + colour) 0
    ∙ ap (λ n. get_or xs n 0) in_picture

pub holds-its-pixels : (across down : ℕ) (samples : List ℕ) (tile : Tile) → IsInside across down tile
    → length samples ≡ 3 * across * down → HoldsItsPixels across samples tile
holds-its-pixels across down samples tile inside long = record {
  size = length-tile across down tile samples inside long;
  each = pixel-at across down tile samples inside long;
}

-- ---- one picture for a buffer

front-same : (a b xs ys : List ℕ) → length a ≡ length b → a ++ xs ≡ b ++ ys → a ≡ b
front-same a b xs ys long same =
    sym (take_at a xs (length a) refl) ∙ ap (take (length a)) same ∙ take_at b ys (length a) (sym long)

rest-same : (a b xs ys : List ℕ) → length a ≡ length b → a ++ xs ≡ b ++ ys → xs ≡ ys
rest-same a b xs ys long same =
    sym (drop_at a xs (length a) refl) ∙ ap (drop (length a)) same ∙ drop_at b ys (length a) (sym long)

-- the pixel of a tile is told by the tile's samples
pixel-told : (across down x y colour : ℕ) (tile : Tile) (xs ys : List ℕ) → IsInside across down tile
    → length xs ≡ 3 * across * down → length ys ≡ 3 * across * down
    → tile_samples across xs tile ≡ tile_samples across ys tile → has_place x y tile ≡ true → colour < 3
    → get_or xs (place_of across x y colour) 0 ≡ get_or ys (place_of across x y colour) 0
pixel-told across down x y colour tile xs ys inside long_xs long_ys same holds colour_low =
    let in_it : Has x y tile = has x y tile holds in
    let left : tile.x ≤ x = in_it.left in
    let right : x < tile.x + tile.width = in_it.right in
    let top : tile.y ≤ y = in_it.top in
    let bottom : y < tile.y + tile.height = in_it.bottom in
    let x_is : tile.x + (x - tile.x) ≡ x = omega arith in
    let y_is : tile.y + (y - tile.y) ≡ y = omega arith in
    let place : place_of across (tile.x + (x - tile.x)) (tile.y + (y - tile.y)) colour ≡ place_of across x y colour =
    ap₂ (λ (m n : ℕ). place_of across m n colour) x_is y_is in
    ap (λ n. get_or xs n 0) (sym place)
    ∙ sym (pixel-at across down tile xs inside long_xs (x - tile.x) (y - tile.y) colour (omega arith) (omega arith) colour_low)
    ∙ ap (λ l. get_or l (place_of tile.width (x - tile.x) (y - tile.y) colour) 0) same
    ∙ pixel-at across down tile ys inside long_ys (x - tile.x) (y - tile.y) colour (omega arith) (omega arith) colour_low
    ∙ ap (λ n. get_or ys n 0) place

pixel-same : (across down x y colour : ℕ) (tiles : List Tile) (xs ys : List ℕ) → All (λ t. IsInside across down t) tiles
    → length xs ≡ 3 * across * down → length ys ≡ 3 * across * down
    → tile_after_tile across tiles xs ≡ tile_after_tile across tiles ys → 0 < count_by (λ t. has_place x y t) tiles → colour < 3
    → get_or xs (place_of across x y colour) 0 ≡ get_or ys (place_of across x y colour) 0
unfolding tile_after_tile
pixel-same across down x y colour [] xs ys inside long_xs long_ys same some colour_low = absurd (omega arith)
pixel-same across down x y colour (tile ∷ tiles) xs ys inside long_xs long_ys same some colour_low =
    let first : IsInside across down tile = All-head (λ t. IsInside across down t) tile tiles inside in
    let sizes : length (tile_samples across xs tile) ≡ length (tile_samples across ys tile) =
    length-tile across down tile xs first long_xs ∙ sym (length-tile across down tile ys first long_ys) in
    let here : tile_samples across xs tile ≡ tile_samples across ys tile =
    front-same (tile_samples across xs tile) (tile_samples across ys tile) (flat_map (tile_samples across xs) tiles) (flat_map (tile_samples across ys) tiles) sizes same in
    let others : flat_map (tile_samples across xs) tiles ≡ flat_map (tile_samples across ys) tiles =
    rest-same (tile_samples across xs tile) (tile_samples across ys tile) (flat_map (tile_samples across xs) tiles) (flat_map (tile_samples across ys) tiles) sizes same in
    elim (cases_Bool (has_place x y tile)) [
      | inl holds ↦ pixel-told across down x y colour tile xs ys first long_xs long_ys here holds colour_low
      | inr fails ↦
          let count : count_by (λ t. has_place x y t) (tile ∷ tiles) ≡ cond {A = ℕ} (has_place x y tile) 1 0 + count_by (λ t. has_place x y t) tiles =
          sum_by-cons (λ t. cond (has_place x y t) 1 0) tile tiles in
          let none : cond {A = ℕ} (has_place x y tile) 1 0 ≡ 0 = ap (λ (b : Bool). cond {A = ℕ} b 1 0) fails in
          pixel-same across down x y colour tiles xs ys (All-tail (λ t. IsInside across down t) tile tiles inside) long_xs long_ys others (omega arith) colour_low
    ]

positive : (down across n : ℕ) → n < down * across → 0 < across
positive down zero n low = absurd (omega arith)
positive down (suc across) n low = omega arith

pub one-stands : (across down : ℕ) (tiles : List Tile) (xs ys : List ℕ) → CoverOnce across down tiles
    → length xs ≡ 3 * across * down → length ys ≡ 3 * across * down
    → tile_after_tile across tiles xs ≡ tile_after_tile across tiles ys → xs ≡ ys
one-stands across down tiles xs ys cover long_xs long_ys same =
    ext_get_or 0 xs ys (long_xs ∙ sym long_ys) (λ i i_low.
    let pixels : 3 * across * down ≡ down * across * 3 = omega arith in
    let pixel_low : i / 3 < down * across = div_below i 3 (down * across) (omega arith) (omega arith) in
    let wide : 0 < across = positive down across (i / 3) pixel_low in
    let y_low : i / 3 / across < down = div_below (i / 3) across down wide pixel_low in
    let x_low : i / 3 % across < across = mod_below (i / 3) across wide in
    let colour_low : i % 3 < 3 = mod_below i 3 (omega arith) in
    let pixel : across * (i / 3 / across) + i / 3 % across ≡ i / 3 = div-add-mod (i / 3) across in
    let sample : 3 * (i / 3) + i % 3 ≡ i = div-add-mod i 3 in
    let place : i ≡ place_of across (i / 3 % across) (i / 3 / across) (i % 3) = omega arith in
    let once : count_by (λ t. has_place (i / 3 % across) (i / 3 / across) t) tiles ≡ 1 = cover.once (i / 3 % across) (i / 3 / across) x_low y_low in
    ap (λ n. get_or xs n 0) place
    ∙ pixel-same across down (i / 3 % across) (i / 3 / across) (i % 3) tiles xs ys cover.inside long_xs long_ys same (omega (arith, once)) colour_low
    ∙ ap (λ n. get_or ys n 0) (sym place))

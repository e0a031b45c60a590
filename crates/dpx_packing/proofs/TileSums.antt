-- Tiles that cover a picture once have as many samples as it: their pixels counted line by line.
use Rattle.std.proofs.Common.{◌≡◌, ℕ, zero, suc, ◌+◌, ◌-◌, ◌*◌, ◌<◌, ◌≤◌, inl, inr, Bool, true, false, cond, ◌&&◌, min, List, [], ◌∷◌, All, refl, ◌∙◌, ap, ap₂, arith}
use Rattle.std.specs.Prelude.{nat_le, nat_lt}
use Rattle.std.proofs.lemmas.Bool.{cases_lt}
use Rattle.std.proofs.lemmas.Bool.Decides.{nat_tests}
use Rattle.std.proofs.lemmas.List.Elements.{All-head, All-tail}
use Rattle.std.proofs.lemmas.List.Sums.{sum_by-cons}
use Rattle.std.specs.List.{count_by, sum_by}
use Rattle.dpx_packing.specs.declared.tile.Tile.{Tile}
use Rattle.dpx_packing.specs.Tiles.{CoverOnce, IsInside, has_place, tile_size}

-- the sum of a function below a number
sum_to : (ℕ → ℕ) → ℕ → ℕ
sum_to f zero = 0
sum_to f (suc n) = sum_to f n + f n

sum-same : (f g : ℕ → ℕ) (n : ℕ) → ((i : ℕ) → i < n → f i ≡ g i) → sum_to f n ≡ sum_to g n
unfolding sum_to
sum-same f g zero same = refl
sum-same f g (suc n) same =
    ap₂ (λ (a b : ℕ). a + b) (sum-same f g n (λ i low. same i (omega arith))) (same n (omega arith))

sum-plus : (f g : ℕ → ℕ) (n : ℕ) → sum_to (λ i. f i + g i) n ≡ sum_to f n + sum_to g n
unfolding sum_to
sum-plus f g zero = refl
sum-plus f g (suc n) =
    let before : sum_to (λ i. f i + g i) n ≡ sum_to f n + sum_to g n = sum-plus f g n in
    omega arith

sum-times : (f : ℕ → ℕ) (k n : ℕ) → sum_to (λ i. f i * k) n ≡ sum_to f n * k
unfolding sum_to
sum-times f k zero = omega arith
sum-times f k (suc n) =
    let before : sum_to (λ i. f i * k) n ≡ sum_to f n * k = sum-times f k n in
    omega arith

sum-each : (f : ℕ → ℕ) (k n : ℕ) → ((i : ℕ) → i < n → f i ≡ k) → sum_to f n ≡ n * k
unfolding sum_to
sum-each f k zero each = omega arith
sum-each f k (suc n) each =
    let before : sum_to f n ≡ n * k = sum-each f k n (λ i low. each i (omega arith)) in
    let last : f n ≡ k = each n (omega arith) in
    omega arith

-- ---- one tile

in_span : ℕ → ℕ → ℕ → Bool
in_span from size i = nat_le from i && nat_lt i (from + size)

span-in : (from size i : ℕ) → from ≤ i → i < from + size → in_span from size i ≡ true
unfolding in_span
span-in from size i low high = grind (arith, nat_tests)

span-before : (from size i : ℕ) → i < from → in_span from size i ≡ false
unfolding in_span
span-before from size i low = grind (arith, nat_tests)

span-behind : (from size i : ℕ) → from + size ≤ i → in_span from size i ≡ false
unfolding in_span
span-behind from size i high = grind (arith, nat_tests)

as_bit : Bool → ℕ
as_bit b = cond b 1 0

bit-of : (b c : Bool) → b ≡ c → as_bit b ≡ cond c 1 0
unfolding as_bit
bit-of b c is = ap (λ (d : Bool). cond {A = ℕ} d 1 0) is

sum-span : (from size n : ℕ) → sum_to (λ i. as_bit (in_span from size i)) n ≡ min n (from + size) - min n from
unfolding sum_to
sum-span from size zero = omega arith
sum-span from size (suc n) =
    let before : sum_to (λ i. as_bit (in_span from size i)) n ≡ min n (from + size) - min n from = sum-span from size n in
    elim (cases_lt n from) [
      | inl low ↦
          let bit : as_bit (in_span from size n) ≡ 0 = bit-of (in_span from size n) false (span-before from size n low) in
          omega arith
      | inr high ↦ elim (cases_lt n (from + size)) [
        | inl in_it ↦
            let bit : as_bit (in_span from size n) ≡ 1 = bit-of (in_span from size n) true (span-in from size n high in_it) in
            omega arith
        | inr past ↦
            let bit : as_bit (in_span from size n) ≡ 0 = bit-of (in_span from size n) false (span-behind from size n past) in
            omega arith
      ]
    ]

bit-both : (b c : Bool) → cond {A = ℕ} (b && c) 1 0 ≡ as_bit b * as_bit c
unfolding as_bit
bit-both true c = omega arith
bit-both false c = omega arith

-- the pixels of a tile, counted over the picture
counted : ℕ → ℕ → (ℕ → ℕ → ℕ) → ℕ
counted across down f = sum_to (λ y. sum_to (λ x. f x y) across) down

has-bits : (x y : ℕ) (tile : Tile)
    → cond {A = ℕ} (has_place x y tile) 1 0 ≡ as_bit (in_span tile.x tile.width x) * as_bit (in_span tile.y tile.height y)
unfolding in_span
has-bits x y tile = bit-both (in_span tile.x tile.width x) (in_span tile.y tile.height y)

turned : (n from size k : ℕ) → from + size ≤ n → (min n (from + size) - min n from) * k ≡ k * size
turned n from size k high =
    let e : min n (from + size) - min n from ≡ size = omega arith in
    ap (λ m. m * k) e ∙ omega arith

whole : (n from size k : ℕ) → from + size ≤ n → (min n (from + size) - min n from) * k ≡ size * k
whole n from size k high =
    let e : min n (from + size) - min n from ≡ size = omega arith in
    ap (λ m. m * k) e

tile-counted : (across down : ℕ) (tile : Tile) → IsInside across down tile
    → counted across down (λ x y. cond (has_place x y tile) 1 0) ≡ tile.height * tile.width
unfolding counted
tile-counted across down tile inside =
    let line : (y : ℕ) → y < down → sum_to (λ x. cond {A = ℕ} (has_place x y tile) 1 0) across ≡ as_bit (in_span tile.y tile.height y) * tile.width = λ y low.
    sum-same (λ x. cond {A = ℕ} (has_place x y tile) 1 0) (λ x. as_bit (in_span tile.x tile.width x) * as_bit (in_span tile.y tile.height y)) across
    (λ x x_low. has-bits x y tile)
    ∙ sum-times (λ x. as_bit (in_span tile.x tile.width x)) (as_bit (in_span tile.y tile.height y)) across
    ∙ ap (λ n. n * as_bit (in_span tile.y tile.height y)) (sum-span tile.x tile.width across)
    ∙ turned across tile.x tile.width (as_bit (in_span tile.y tile.height y)) inside.across_high
    in
    sum-same (λ y. sum_to (λ x. cond {A = ℕ} (has_place x y tile) 1 0) across) (λ y. as_bit (in_span tile.y tile.height y) * tile.width) down line
    ∙ sum-times (λ y. as_bit (in_span tile.y tile.height y)) tile.width down
    ∙ ap (λ n. n * tile.width) (sum-span tile.y tile.height down)
    ∙ whole down tile.y tile.height tile.width inside.down_high

-- ---- all tiles

counted-none : (across down : ℕ) → counted across down (λ x y. 0) ≡ 0
unfolding counted
counted-none across down =
    let line : sum_to (λ x. 0) across ≡ across * 0 = sum-each (λ x. 0) 0 across (λ i low. refl) in
    let all : sum_to (λ y. sum_to (λ x. 0) across) down ≡ down * 0 =
    sum-each (λ y. sum_to (λ x. 0) across) 0 down (λ i low. omega arith) in
    omega arith

counted-plus : (across down : ℕ) (f g h : ℕ → ℕ → ℕ) → ((x y : ℕ) → f x y ≡ g x y + h x y)
    → counted across down f ≡ counted across down g + counted across down h
unfolding counted
counted-plus across down f g h is =
    sum-same (λ y. sum_to (λ x. f x y) across) (λ y. sum_to (λ x. g x y) across + sum_to (λ x. h x y) across) down (λ y low.
    sum-same (λ x. f x y) (λ x. g x y + h x y) across (λ x x_low. is x y)
    ∙ sum-plus (λ x. g x y) (λ x. h x y) across)
    ∙ sum-plus (λ y. sum_to (λ x. g x y) across) (λ y. sum_to (λ x. h x y) across) down

counted-one : (across down : ℕ) (f : ℕ → ℕ → ℕ) → ((x y : ℕ) → x < across → y < down → f x y ≡ 1)
    → counted across down f ≡ down * (across * 1)
unfolding counted
counted-one across down f one =
    sum-each (λ y. sum_to (λ x. f x y) across) (across * 1) down (λ y y_low.
    sum-each (λ x. f x y) 1 across (λ x x_low. one x y x_low y_low))

all-counted : (across down : ℕ) (tiles : List Tile) → All (λ t. IsInside across down t) tiles
    → sum_by tile_size tiles ≡ 3 * counted across down (λ x y. count_by (λ t. has_place x y t) tiles)
all-counted across down [] inside =
    let none : counted across down (λ x y. count_by (λ t. has_place x y t) []) ≡ 0 = counted-none across down in
    omega arith
all-counted across down (tile ∷ tiles) inside =
    let rest : sum_by tile_size tiles ≡ 3 * counted across down (λ x y. count_by (λ t. has_place x y t) tiles) =
    all-counted across down tiles (All-tail (λ t. IsInside across down t) tile tiles inside) in
    let first : counted across down (λ x y. cond (has_place x y tile) 1 0) ≡ tile.height * tile.width =
    tile-counted across down tile (All-head (λ t. IsInside across down t) tile tiles inside) in
    let both : counted across down (λ x y. count_by (λ t. has_place x y t) (tile ∷ tiles))
    ≡ counted across down (λ x y. cond (has_place x y tile) 1 0) + counted across down (λ x y. count_by (λ t. has_place x y t) tiles) =
    counted-plus across down (λ x y. count_by (λ t. has_place x y t) (tile ∷ tiles)) (λ x y. cond (has_place x y tile) 1 0) (λ x y. count_by (λ t. has_place x y t) tiles)
    (λ x y. sum_by-cons (λ t. cond {A = ℕ} (has_place x y t) 1 0) tile tiles)
    in
    let sum : sum_by tile_size (tile ∷ tiles) ≡ tile_size tile + sum_by tile_size tiles = sum_by-cons tile_size tile tiles in
    omega arith

pub sizes-sum : (across down : ℕ) (tiles : List Tile) → CoverOnce across down tiles → sum_by tile_size tiles ≡ 3 * across * down
sizes-sum across down tiles cover =
    let all : sum_by tile_size tiles ≡ 3 * counted across down (λ x y. count_by (λ t. has_place x y t) tiles) =
    all-counted across down tiles cover.inside in
    let one : counted across down (λ x y. count_by (λ t. has_place x y t) tiles) ≡ down * (across * 1) =
    counted-one across down (λ x y. count_by (λ t. has_place x y t) tiles) cover.once in
    omega arith

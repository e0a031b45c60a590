-- Pixels in and outside a tile, and the places of its lines in a picture.
use Rattle.std.proofs.Common.{◌≡◌, ℕ, ◌+◌, ◌*◌, ◌<◌, ◌≤◌, ◌⊎◌, inl, inr, true, ap, arith}
use Rattle.std.proofs.Math.Nat.{mul-le-mul_right}
use Rattle.std.proofs.lemmas.Bool.{cases_lt}
use Rattle.std.proofs.lemmas.Bool.Decides.{nat_tests}
use Rattle.dpx_packing.specs.declared.tile.Tile.{Tile}
use Rattle.dpx_packing.specs.Tiles.{has_place, pixels_before}
use Rattle.dpx_packing.specs.TileLaws.{CountsByLine}

-- the pixel is in the tile
pub record Has (x y : ℕ) (tile : Tile) : Type 0 where
  pub left : tile.x ≤ x
  pub right : x < tile.x + tile.width
  pub top : tile.y ≤ y
  pub bottom : y < tile.y + tile.height

pub has : (x y : ℕ) (tile : Tile) → has_place x y tile ≡ true → Has x y tile
has x y tile is = record {
  left = grind (arith, nat_tests);
  right = grind (arith, nat_tests);
  top = grind (arith, nat_tests);
  bottom = grind (arith, nat_tests);
}

pub has_back : (x y : ℕ) (tile : Tile) → Has x y tile → has_place x y tile ≡ true
has_back x y tile h =
    let left : tile.x ≤ x = h.left in
    let right : x < tile.x + tile.width = h.right in
    let top : tile.y ≤ y = h.top in
    let bottom : y < tile.y + tile.height = h.bottom in
    grind (arith, nat_tests)

-- a line of a tile ends in the picture
pub line-high : (across down x y width height row : ℕ) → x + width ≤ across → y + height ≤ down → row < height
    → 3 * ((y + row) * across + x) + 3 * width ≤ 3 * across * down
line-high across down x y width height row in_line in_height row_low =
    let lines : (y + row + 1) * across ≤ down * across = mul-le-mul_right across (omega arith) in
    omega arith

-- a line of a tile begins where the line before it has ended
pub line-after : (across x y width row next : ℕ) → x + width ≤ across → row < next
    → 3 * ((y + row) * across + x) + 3 * width ≤ 3 * ((y + next) * across + x)
line-after across x y width row next in_line above =
    let lines : (y + row + 1) * across ≤ (y + next) * across = mul-le-mul_right across (omega arith) in
    omega arith

-- a pixel outside a tile stands before or behind each of its lines
pub outside : (across x y colour left top width height row : ℕ) → x < across → colour < 3 → left + width ≤ across
    → row < height → (left ≤ x → x < left + width → top ≤ y → y < top + height → ⊥)
    → (3 * (y * across + x) + colour < 3 * ((top + row) * across + left))
    ⊎ (3 * ((top + row) * across + left) + 3 * width ≤ 3 * (y * across + x) + colour)
outside across x y colour left top width height row x_low colour_low in_line row_low out =
    elim (cases_lt y (top + row)) [
      | inl above ↦
          let lines : (y + 1) * across ≤ (top + row) * across = mul-le-mul_right across (omega arith) in
          inl (omega arith)
      | inr under ↦ elim (cases_lt (top + row) y) [
        | inl below ↦
            let lines : (top + row + 1) * across ≤ y * across = mul-le-mul_right across (omega arith) in
            inr (omega arith)
        | inr over ↦
            let same : y ≡ top + row = omega arith in
            let lines : y * across ≡ (top + row) * across = ap (λ n. n * across) same in
            elim (cases_lt x left) [
              | inl before ↦ inl (omega arith)
              | inr behind ↦ elim (cases_lt x (left + width)) [
                | inl in_it ↦ absurd (out behind in_it (omega arith) (omega arith))
                | inr past ↦ inr (omega arith)
              ]
            ]
      ]
    ]

-- ---- pixels counted line by line

before-next : (across x y next : ℕ) → x < across → y < next → pixels_before across x y < next * across
before-next across x y next x_low above =
    let lines : (y + 1) * across ≤ next * across = mul-le-mul_right across (omega arith) in
    omega arith

one-line : (across x y other_x other_y : ℕ) → x < across → other_x < across
    → pixels_before across x y ≡ pixels_before across other_x other_y → y ≡ other_y
one-line across x y other_x other_y x_low other_low same =
    elim (cases_lt y other_y) [
      | inl above ↦
          let lines : (y + 1) * across ≤ other_y * across = mul-le-mul_right across (omega arith) in
          absurd (omega arith)
      | inr under ↦ elim (cases_lt other_y y) [
        | inl below ↦
            let lines : (other_y + 1) * across ≤ y * across = mul-le-mul_right across (omega arith) in
            absurd (omega arith)
        | inr over ↦ omega arith
      ]
    ]

one-column : (across x y other_x other_y : ℕ) → x < across → other_x < across
    → pixels_before across x y ≡ pixels_before across other_x other_y → x ≡ other_x
one-column across x y other_x other_y x_low other_low same =
    let line : y ≡ other_y = one-line across x y other_x other_y x_low other_low same in
    let lines : y * across ≡ other_y * across = ap (λ n. n * across) line in
    omega arith

pub counts-by-line : (across down : ℕ) → CountsByLine across down
counts-by-line across down = record {
  line = before-next across;
  end = λ x y x_low y_low. let low : pixels_before across x y < down * across = before-next across x y down x_low y_low in omega arith;
  same_x = one-column across;
  same_y = one-line across;
}

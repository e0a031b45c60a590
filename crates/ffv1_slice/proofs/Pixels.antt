-- A line of pixels of a tile.
use Rattle.std.proofs.Common.{◌≡◌, ℕ, ◌+◌, ◌-◌, ◌*◌, ◌<◌, ◌≤◌, List, length, drop, ap, ◌∙◌, arith, inl, inr}
use Rattle.std.proofs.Math.Nat.{mul-le-mul_left}
use Rattle.std.proofs.lemmas.Bool.{cases_lt}
use Rattle.std.proofs.lemmas.List.{get_or-take, get_or-drop, get_or_past, length-take}
use Rattle.std.specs.Prelude.{slice_index, slice_range, min}
use Rattle.ffv1_slice.specs.Below.{AreBelow}
use Rattle.ffv1_slice.specs.Colour.{Pixel, pixel_in}

range_at : (tile : List ℕ) (s n k : ℕ) → k < n → slice_index (slice_range tile s (s + n)) k ≡ slice_index tile (s + k)
range_at tile s n k below = get_or-take (s + n - s) (drop s tile) k 0 (omega arith) ∙ get_or-drop s tile k 0

pub row_within : (width height y : ℕ) → y < height → y * width + width ≤ width * height
row_within width height y below =
    let e : y + 1 ≤ height = omega arith in
    let m : width * (y + 1) ≤ width * height = mul-le-mul_left width e in
    omega arith

pub pixel_same : (p q : Pixel) → p.red ≡ q.red → p.green ≡ q.green → p.blue ≡ q.blue → p ≡ q
pixel_same p q r g b =
    let f0 : ℕ → Pixel = λ n. record { red = n; green = p.green; blue = p.blue } in
    let f1 : ℕ → Pixel = λ n. record { red = q.red; green = n; blue = p.blue } in
    let f2 : ℕ → Pixel = λ n. record { red = q.red; green = q.green; blue = n } in
    ap f0 r ∙ ap f1 g ∙ ap f2 b

pub pixel_row : (tile : List ℕ) (width y x start : ℕ) → x < width → start ≡ 3 * (y * width) → pixel_in (slice_range tile start (start + 3 * width)) x ≡ pixel_in tile (y * width + x)
pixel_row tile width y x start within is =
    let i0 : start + 3 * x ≡ 3 * (y * width + x) = omega arith in
    let i1 : start + (3 * x + 1) ≡ 3 * (y * width + x) + 1 = omega arith in
    let i2 : start + (3 * x + 2) ≡ 3 * (y * width + x) + 2 = omega arith in
    let e0 : slice_index (slice_range tile start (start + 3 * width)) (3 * x) ≡ slice_index tile (3 * (y * width + x)) = range_at tile start (3 * width) (3 * x) (omega arith) ∙ ap (λ (n : ℕ). slice_index tile n) i0 in
    let e1 : slice_index (slice_range tile start (start + 3 * width)) (3 * x + 1) ≡ slice_index tile (3 * (y * width + x) + 1) = range_at tile start (3 * width) (3 * x + 1) (omega arith) ∙ ap (λ (n : ℕ). slice_index tile n) i1 in
    let e2 : slice_index (slice_range tile start (start + 3 * width)) (3 * x + 2) ≡ slice_index tile (3 * (y * width + x) + 2) = range_at tile start (3 * width) (3 * x + 2) (omega arith) ∙ ap (λ (n : ℕ). slice_index tile n) i2 in
    pixel_same (pixel_in (slice_range tile start (start + 3 * width)) x) (pixel_in tile (y * width + x)) e0 e1 e2

pub below_row : (most : ℕ) (tile : List ℕ) (start n : ℕ) → 0 < most → AreBelow most tile → AreBelow most (slice_range tile start (start + n))
below_row most tile start n some are = record {
  each = λ k. elim (cases_lt k n) as (λ _. slice_index (slice_range tile start (start + n)) k < most) [
    | inl inside ↦ (let e : slice_index (slice_range tile start (start + n)) k ≡ slice_index tile (start + k) = range_at tile start n k inside in let l : slice_index tile (start + k) < most = are.each (start + k) in omega arith)
    | inr past ↦
        let len : length (slice_range tile start (start + n)) ≡ min (start + n - start) (length (drop start tile)) = length-take (start + n - start) (drop start tile) in
        let e : slice_index (slice_range tile start (start + n)) k ≡ 0 = get_or_past (slice_range tile start (start + n)) k 0 (omega arith) in
        omega arith
  ];
}

pub ruleset pixels = (row_within, pixel_row, below_row)

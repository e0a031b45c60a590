-- How long the lists of a well-formed layout are.
use Rattle.std.proofs.Common.{◌≡◌, ℕ, ◌+◌, ◌-◌, ◌*◌, ◌/◌, ◌≤◌, Bool, true, false, cond, ◌==◌, ◌||◌, refl, arith, eqb-true}
use Rattle.std.proofs.Math.Nat.{mul-le-mul_left, mul-le-mul_right}
use Rattle.dpx_header.specs.declared.layout_type.Layout.{Layout}
use Rattle.dpx_header.specs.Layout.{line_len, pads_in_line, aligned, is_stride, IsWellFormed}
use Rattle.dpx_header.specs.Laws.{HasBounds}

line_len-le : (bits width : ℕ) → line_len bits width ≤ 6 * width
unfolding line_len
line_len-le bits width =
    elim (bits == 8) as (λ (b : Bool). cond b (3 * width) (cond (bits == 10) (4 * width) (6 * width)) ≤ 6 * width) [
      | true ↦ omega arith
      | false ↦ elim (bits == 10) as (λ (b : Bool). cond b (4 * width) (6 * width) ≤ 6 * width) [ true ↦ omega arith | false ↦ omega arith ]
    ]

pads_in_line-le : (bits width : ℕ) → pads_in_line bits width ≤ 3 * width
unfolding pads_in_line
pads_in_line-le bits width =
    elim (bits == 10) as (λ (b : Bool). cond b width (cond (bits == 12) (3 * width) 0) ≤ 3 * width) [
      | true ↦ omega arith
      | false ↦ elim (bits == 12) as (λ (b : Bool). cond b (3 * width) 0 ≤ 3 * width) [ true ↦ omega arith | false ↦ omega arith ]
    ]

record FitsLine (line stride : ℕ) : Type 0 where
  pub low : line ≤ stride
  pub high : stride ≤ line + 3

stride-fits : (line stride : ℕ) → is_stride line stride ≡ true → FitsLine line stride
stride-fits line stride e =
    elim (stride == line) as (λ (b : Bool). (stride == line) ≡ b → (b || (stride == aligned line)) ≡ true → FitsLine line stride) [
      | true ↦ λ tight e. let is : stride ≡ line = eqb-true stride line tight in record { low = omega arith; high = omega arith }
      | false ↦ λ other e. let is : stride ≡ (line + 3) / 4 * 4 = eqb-true stride (aligned line) e in record { low = omega arith; high = omega arith }
    ] refl e

pub bounds : (layout : Layout) → IsWellFormed layout → HasBounds layout
bounds layout formed =
    let fits = stride-fits (line_len layout.bits layout.width) layout.stride formed.stride in
    let line = line_len-le layout.bits layout.width in
    let pads = pads_in_line-le layout.bits layout.width in
    let in_line : pads_in_line layout.bits layout.width + (layout.stride - line_len layout.bits layout.width) ≤ 3 * layout.width + 3 = omega arith in
    let all_pads = mul-le-mul_left layout.height in_line in
    let stride : layout.stride ≤ 6 * layout.width + 3 = omega arith in
    let all_bytes = mul-le-mul_right layout.height stride in
    record {
      line_low = fits.low;
      line_high = fits.high;
      samples = omega arith;
      pads = omega arith;
      image = omega arith;
    }

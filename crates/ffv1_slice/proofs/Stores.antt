-- Pixels stored one after another.
use Rattle.std.proofs.Common.{◌≡◌, ◌≢◌, ℕ, ◌+◌, ◌-◌, ◌*◌, ◌/◌, ◌<◌, ◌≤◌, List, Bool, true, false, length, set, get_or-set_same, get_or-set_other, length-set, refl, sym, ap, ◌∙◌, subst, arith, inl, inr}
use Rattle.std.proofs.lemmas.Bool.{cases_eq}
use Rattle.std.specs.Prelude.{slice_index}
use Rattle.ffv1_slice.specs.Below.{IsHalf}
use Rattle.ffv1_slice.specs.Colour.{pixel_in, plane_sample, raised_base, raised_colour, AreColours}
use Rattle.ffv1_slice.specs.Storing.{HasSamples, RowStored, RowLeaves}
use Rattle.ffv1_slice.proofs.Pixels.{pixel_same}

abbrev pub with_pixel : List ℕ → ℕ → ℕ → ℕ → ℕ → List ℕ
with_pixel tile p r g b = set (set (set tile p r) (p + 1) g) (p + 2) b

place_other : (tile : List ℕ) (p r g b j : ℕ) → j ≢ p → j ≢ p + 1 → j ≢ p + 2 → slice_index (with_pixel tile p r g b) j ≡ slice_index tile j
place_other tile p r g b j n0 n1 n2 =
    get_or-set_other (set (set tile p r) (p + 1) g) (p + 2) j b 0 n2 ∙ get_or-set_other (set tile p r) (p + 1) j g 0 n1 ∙ get_or-set_other tile p j r 0 n0

pixel_other : (tile : List ℕ) (k p r g b i : ℕ) → p ≡ 3 * k → i ≢ k → pixel_in (with_pixel tile p r g b) i ≡ pixel_in tile i
pixel_other tile k p r g b i is ne =
    pixel_same (pixel_in (with_pixel tile p r g b) i) (pixel_in tile i)
    (place_other tile p r g b (3 * i) (omega arith) (omega arith) (omega arith))
    (place_other tile p r g b (3 * i + 1) (omega arith) (omega arith) (omega arith))
    (place_other tile p r g b (3 * i + 2) (omega arith) (omega arith) (omega arith))

pixel_here : (tile : List ℕ) (k p r g b : ℕ) → p ≡ 3 * k → p + 2 < length tile → pixel_in (with_pixel tile p r g b) k ≡ record { red = r; green = g; blue = b }
pixel_here tile k p r g b is within =
    let l1 : length (set tile p r) ≡ length tile = length-set tile p r in
    let l2 : length (set (set tile p r) (p + 1) g) ≡ length (set tile p r) = length-set (set tile p r) (p + 1) g in
    let n01 : p ≢ p + 1 = omega arith in
    let n02 : p ≢ p + 2 = omega arith in
    let n12 : p + 1 ≢ p + 2 = omega arith in
    let e0 : slice_index (with_pixel tile p r g b) p ≡ r = get_or-set_other (set (set tile p r) (p + 1) g) (p + 2) p b 0 n02 ∙ get_or-set_other (set tile p r) (p + 1) p g 0 n01 ∙ get_or-set_same tile p r 0 (omega arith) in
    let e1 : slice_index (with_pixel tile p r g b) (p + 1) ≡ g = get_or-set_other (set (set tile p r) (p + 1) g) (p + 2) (p + 1) b 0 n12 ∙ get_or-set_same (set tile p r) (p + 1) g 0 (omega arith) in
    let e2 : slice_index (with_pixel tile p r g b) (p + 2) ≡ b = get_or-set_same (set (set tile p r) (p + 1) g) (p + 2) b 0 (omega arith) in
    let i0 : 3 * k ≡ p = omega arith in
    let i1 : 3 * k + 1 ≡ p + 1 = omega arith in
    let i2 : 3 * k + 2 ≡ p + 2 = omega arith in
    pixel_same (pixel_in (with_pixel tile p r g b) k) (record { red = r; green = g; blue = b })
    (ap (λ (n : ℕ). slice_index (with_pixel tile p r g b) n) i0 ∙ e0) (ap (λ (n : ℕ). slice_index (with_pixel tile p r g b) n) i1 ∙ e1) (ap (λ (n : ℕ). slice_index (with_pixel tile p r g b) n) i2 ∙ e2)

-- the pixel that three samples tell, where its colours are in range
has_green : (half y cb cr : ℕ) → IsHalf half → y < 2 * half → cb < 2 * half → cr < 2 * half → AreColours half y cb cr → HasSamples half true y cb cr (record { red = raised_colour half (raised_base half y cb cr) cr - 2 * half; green = raised_base half y cb cr - 2 * half; blue = raised_colour half (raised_base half y cb cr) cb - 2 * half })
unfolding plane_sample
has_green half y cb cr h by bb br are =
    let even : half ≡ 2 * (half / 2) = h.even in
    let b0 : 2 * half ≤ raised_base half y cb cr = are.base_is.low in
    let b1 : raised_base half y cb cr < 3 * half = are.base_is.high in
    let o0 : 2 * half ≤ raised_colour half (raised_base half y cb cr) cb = are.other_is.low in
    let o1 : raised_colour half (raised_base half y cb cr) cb < 3 * half = are.other_is.high in
    let r0 : 2 * half ≤ raised_colour half (raised_base half y cb cr) cr = are.red_is.low in
    let r1 : raised_colour half (raised_base half y cb cr) cr < 3 * half = are.red_is.high in
    record {
      luma = omega arith;
      blue = omega arith;
      red = omega arith;
      is_pixel = record { red = omega arith; green = omega arith; blue = omega arith };
      are_colours = are;
    }

has_blue : (half y cb cr : ℕ) → IsHalf half → y < 2 * half → cb < 2 * half → cr < 2 * half → AreColours half y cb cr → HasSamples half false y cb cr (record { red = raised_colour half (raised_base half y cb cr) cr - 2 * half; green = raised_colour half (raised_base half y cb cr) cb - 2 * half; blue = raised_base half y cb cr - 2 * half })
unfolding plane_sample
has_blue half y cb cr h by bb br are =
    let even : half ≡ 2 * (half / 2) = h.even in
    let b0 : 2 * half ≤ raised_base half y cb cr = are.base_is.low in
    let b1 : raised_base half y cb cr < 3 * half = are.base_is.high in
    let o0 : 2 * half ≤ raised_colour half (raised_base half y cb cr) cb = are.other_is.low in
    let o1 : raised_colour half (raised_base half y cb cr) cb < 3 * half = are.other_is.high in
    let r0 : 2 * half ≤ raised_colour half (raised_base half y cb cr) cr = are.red_is.low in
    let r1 : raised_colour half (raised_base half y cb cr) cr < 3 * half = are.red_is.high in
    record {
      luma = omega arith;
      blue = omega arith;
      red = omega arith;
      is_pixel = record { red = omega arith; green = omega arith; blue = omega arith };
      are_colours = are;
    }

-- the same, as the code chooses
pub pixel_green : (half y cb cr : ℕ) (green : Bool) → green ≡ true → IsHalf half → y < 2 * half → cb < 2 * half → cr < 2 * half → AreColours half y cb cr → HasSamples half green y cb cr (record { red = raised_colour half (raised_base half y cb cr) cr - 2 * half; green = raised_base half y cb cr - 2 * half; blue = raised_colour half (raised_base half y cb cr) cb - 2 * half })
pixel_green half y cb cr green is h by bb br are =
    subst (λ (g : Bool). HasSamples half g y cb cr (record { red = raised_colour half (raised_base half y cb cr) cr - 2 * half; green = raised_base half y cb cr - 2 * half; blue = raised_colour half (raised_base half y cb cr) cb - 2 * half })) (sym is) (has_green half y cb cr h by bb br are)

pub pixel_blue : (half y cb cr : ℕ) (green : Bool) → green ≡ false → IsHalf half → y < 2 * half → cb < 2 * half → cr < 2 * half → AreColours half y cb cr → HasSamples half green y cb cr (record { red = raised_colour half (raised_base half y cb cr) cr - 2 * half; green = raised_colour half (raised_base half y cb cr) cb - 2 * half; blue = raised_base half y cb cr - 2 * half })
pixel_blue half y cb cr green is h by bb br are =
    subst (λ (g : Bool). HasSamples half g y cb cr (record { red = raised_colour half (raised_base half y cb cr) cr - 2 * half; green = raised_colour half (raised_base half y cb cr) cb - 2 * half; blue = raised_base half y cb cr - 2 * half })) (sym is) (has_blue half y cb cr h by bb br are)

pub none_stored : (half : ℕ) (green : Bool) (luma blue red tile : List ℕ) (at : ℕ) → RowStored half green luma blue red tile tile at 0
none_stored half green luma blue red tile at = record { each = λ x b. absurd (omega arith); kept = λ i b. refl }

pub pixel_stored : (half : ℕ) (green : Bool) (luma blue red old tile : List ℕ) (at x p r g b : ℕ) → RowStored half green luma blue red old tile at x → p ≡ 3 * (at + x) → p + 2 < length tile → HasSamples half green (slice_index luma (x + 2)) (slice_index blue (x + 2)) (slice_index red (x + 2)) (record { red = r; green = g; blue = b }) → RowStored half green luma blue red old (set (set (set tile p r) (p + 1) g) (p + 2) b) at (x + 1)
pixel_stored half green luma blue red old tile at x p r g b h is within s = record {
  each = λ k below. elim (cases_eq k x) as (λ _. HasSamples half green (slice_index luma (k + 2)) (slice_index blue (k + 2)) (slice_index red (k + 2)) (pixel_in (with_pixel tile p r g b) (at + k))) [
    | inl e ↦ subst (λ (n : ℕ). HasSamples half green (slice_index luma (n + 2)) (slice_index blue (n + 2)) (slice_index red (n + 2)) (pixel_in (with_pixel tile p r g b) (at + n))) (sym e)
        (subst (HasSamples half green (slice_index luma (x + 2)) (slice_index blue (x + 2)) (slice_index red (x + 2))) (sym (pixel_here tile (at + x) p r g b is within)) s)
    | inr ne ↦ (let other : at + k ≢ at + x = omega arith in subst (HasSamples half green (slice_index luma (k + 2)) (slice_index blue (k + 2)) (slice_index red (k + 2))) (sym (pixel_other tile (at + x) p r g b (at + k) is other)) (h.each k (omega arith)))
  ];
  kept = λ i below. (let other : i ≢ at + x = omega arith in pixel_other tile (at + x) p r g b i is other ∙ h.kept i below);
}

pub row_leaves : (half : ℕ) (luma blue red : List ℕ) (x width : ℕ) → x < width → (AreColours half (slice_index luma (x + 2)) (slice_index blue (x + 2)) (slice_index red (x + 2)) → ⊥) → RowLeaves half luma blue red width
row_leaves half luma blue red x width within leaves = record { x = x; within = within; leaves = leaves }

pub ruleset stores = (none_stored, pixel_stored, row_leaves)

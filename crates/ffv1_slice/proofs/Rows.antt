-- The lines of the planes, on the way down a slice.
use Rattle.std.proofs.Common.{◌≡◌, ℕ, zero, suc, ◌+◌, ◌-◌, ◌^◌, ◌<◌, ◌≤◌, min, List, ◌++◌, Bool, length, refl, sym, ap, ◌∙◌, subst, arith, inl, inr}
use Rattle.std.proofs.lemmas.Bool.{cases_lt}
use Rattle.std.proofs.lemmas.List.{get_or-replicate, get_or_past, length-replicate}
use Rattle.std.specs.Prelude.{ℤ, slice_index, replicate}
use Rattle.range_coder.specs.Choices.{Choice}
use Rattle.ffv1_params.specs.Parameters.{Parameters}
use Rattle.ffv1_slice.specs.declared.around.Around.{Around}
use Rattle.ffv1_slice.specs.declared.head.SliceHead.{SliceHead}
use Rattle.ffv1_slice.specs.declared.lines.Lines.{Lines}
use Rattle.ffv1_slice.specs.declared.lines.Planes.{Planes}
use Rattle.ffv1_slice.specs.Below.{AreBelow}
use Rattle.ffv1_slice.specs.Blank.{IsBlank}
use Rattle.ffv1_slice.specs.Colour.{pixel_in, plane_sample}
use Rattle.ffv1_slice.specs.Plane.{cell, around_at, sample_choices, joined}
use Rattle.ffv1_slice.specs.Planes.{AreReady, IsLoaded, HoldsAbove, HoldsLines, choices_of_plane, choices_of_planes}
use Rattle.ffv1_slice.specs.Slice.{first_slot, plane_values, line_choices, row_choices}
use Rattle.ffv1_slice.specs.Work.{HoldsLine, around_lines, choices_of_line}
use Rattle.ffv1_slice.proofs.Joining.{joined_same}

-- places of a line
pub cell_at : (width : ℕ) (plane : ℕ → ℕ → ℕ) (y x : ℕ) → x < width → cell width plane (y + 2) (x + 2) ≡ plane y x
unfolding cell
cell_at width plane y x within =
    let a : y + 2 ≡ suc (suc y) = omega arith in
    let b : x + 2 ≡ suc (suc x) = omega arith in
    let c : min x (width - 1) ≡ x = omega arith in
    rw (a, b, c) refl

cell_last : (width : ℕ) (plane : ℕ → ℕ → ℕ) (y : ℕ) → 1 ≤ width → cell width plane (y + 2) (width + 2) ≡ cell width plane (y + 2) (width + 1)
unfolding cell
cell_last width plane y some =
    let a : y + 2 ≡ suc (suc y) = omega arith in
    let b : width + 2 ≡ suc (suc width) = omega arith in
    let d : width + 1 ≡ suc (suc (width - 1)) = omega arith in
    let c : min width (width - 1) ≡ min (width - 1) (width - 1) = omega arith in
    rw (a, b, d, c) refl

pub cell_first : (width : ℕ) (plane : ℕ → ℕ → ℕ) (y : ℕ) → cell width plane (y + 2) 1 ≡ cell width plane (y + 1) 2
unfolding cell
cell_first width plane zero = refl
cell_first width plane (suc y) =
    let a : suc y + 2 ≡ suc (suc (suc y)) = omega arith in
    let b : suc y + 1 ≡ suc (suc y) = omega arith in
    let c : min 0 (width - 1) ≡ 0 = omega arith in
    rw (a, b, c) refl

pub cell_zero : (width : ℕ) (plane : ℕ → ℕ → ℕ) (y : ℕ) → cell width plane (y + 2) 0 ≡ 0
unfolding cell
cell_zero width plane y = let a : y + 2 ≡ suc (suc y) = omega arith in rw a refl

-- the choices of a line, from the lines that hold it
pub around_held : (width : ℕ) (plane : ℕ → ℕ → ℕ) (y x : ℕ) (above2 above line : List ℕ) → HoldsLine width plane y above2 → HoldsLine width plane (y + 1) above → HoldsLine width plane (y + 2) line → x < width → around_lines above2 above line x ≡ around_at width plane y x
around_held width plane y x above2 above line h2 h1 h0 within =
    let aa : slice_index above2 (x + 2) ≡ cell width plane y (x + 2) = h2.each (x + 2) (omega arith) in
    let al : slice_index above (x + 1) ≡ cell width plane (y + 1) (x + 1) = h1.each (x + 1) (omega arith) in
    let ab : slice_index above (x + 2) ≡ cell width plane (y + 1) (x + 2) = h1.each (x + 2) (omega arith) in
    let ar : slice_index above (x + 3) ≡ cell width plane (y + 1) (x + 3) = h1.each (x + 3) (omega arith) in
    let le : slice_index line (x + 1) ≡ cell width plane (y + 2) (x + 1) = h0.each (x + 1) (omega arith) in
    let ll : slice_index line x ≡ cell width plane (y + 2) x = h0.each x (omega arith) in
    rw (aa, al, ab, ar, le, ll) refl

line_held : (half : ℕ) (values : List ℤ) (first width : ℕ) (plane : ℕ → ℕ → ℕ) (y : ℕ) (above2 above line : List ℕ) → HoldsLine width plane y above2 → HoldsLine width plane (y + 1) above → HoldsLine width plane (y + 2) line → choices_of_line half values first above2 above line width ≡ joined width (λ x. sample_choices half values first (around_at width plane y x) (plane y x))
line_held half values first width plane y above2 above line h2 h1 h0 =
    joined_same width (λ x. sample_choices half values first (around_lines above2 above line x) (slice_index line (x + 2))) (λ x. sample_choices half values first (around_at width plane y x) (plane y x))
    (λ x within.
    let e : around_lines above2 above line x ≡ around_at width plane y x = around_held width plane y x above2 above line h2 h1 h0 within in
    let s : slice_index line (x + 2) ≡ plane y x = h0.each (x + 2) (omega arith) ∙ cell_at width plane y x within in
    ap (λ (a : Around). sample_choices half values first a (slice_index line (x + 2))) e ∙ ap (λ (v : ℕ). sample_choices half values first (around_at width plane y x) v) s)

pub row_held : (params : Parameters) (head : SliceHead) (width : ℕ) (s : ℕ → ℕ → ℕ → ℕ) (y : ℕ) (planes : Planes) → HoldsLines width (s 0) y planes.luma → HoldsLines width (s 1) y planes.blue → HoldsLines width (s 2) y planes.red → choices_of_planes params head planes width ≡ row_choices params head width s y
unfolding joined
row_held params head width s y planes h0 h1 h2 =
    let e0 : choices_of_plane params head 0 planes.luma width ≡ line_choices params head width s y 0 = line_held (2 ^ params.bits) (plane_values params head 0) (first_slot params 0) width (s 0) y planes.luma.above2.items planes.luma.above.items planes.luma.line.items h0.above2 h0.above h0.line in
    let e1 : choices_of_plane params head 1 planes.blue width ≡ line_choices params head width s y 1 = line_held (2 ^ params.bits) (plane_values params head 1) (first_slot params 1) width (s 1) y planes.blue.above2.items planes.blue.above.items planes.blue.line.items h1.above2 h1.above h1.line in
    let e2 : choices_of_plane params head 2 planes.red width ≡ line_choices params head width s y 2 = line_held (2 ^ params.bits) (plane_values params head 2) (first_slot params 2) width (s 2) y planes.red.above2.items planes.red.above.items planes.red.line.items h2.above2 h2.above h2.line in
    ap (λ (cs : List Choice). cs ++ choices_of_plane params head 1 planes.blue width ++ choices_of_plane params head 2 planes.red width) e0
    ∙ ap (λ (cs : List Choice). line_choices params head width s y 0 ++ cs ++ choices_of_plane params head 2 planes.red width) e1
    ∙ ap (λ (cs : List Choice). line_choices params head width s y 0 ++ line_choices params head width s y 1 ++ cs) e2

pub loaded_at : (width : ℕ) (plane : ℕ → ℕ → ℕ) (y : ℕ) (new old : List ℕ) (place : ℕ) → 1 ≤ width → slice_index new 0 ≡ 0 → slice_index new 1 ≡ slice_index old 2 → slice_index new (width + 2) ≡ slice_index new (width + 1) → ((x : ℕ) → x < width → slice_index new (x + 2) ≡ plane y x) → slice_index old 2 ≡ cell width plane (y + 1) 2 → place < width + 3 → slice_index new place ≡ cell width plane (y + 2) place
loaded_at width plane y new old zero some l2 l1 r s above within = l2 ∙ sym (cell_zero width plane y)
loaded_at width plane y new old (suc zero) some l2 l1 r s above within = l1 ∙ above ∙ sym (cell_first width plane y)
loaded_at width plane y new old (suc (suc x)) some l2 l1 r s above within =
    let e : suc (suc x) ≡ x + 2 = omega arith in
    let P : ℕ → Type 0 = λ n. slice_index new n ≡ cell width plane (y + 2) n in
    subst P (sym e) (elim (cases_lt x width) as (λ _. slice_index new (x + 2) ≡ cell width plane (y + 2) (x + 2)) [
      | inl inside ↦ s x inside ∙ sym (cell_at width plane y x inside)
      | inr past ↦
          let last : x ≡ width = omega arith in
          let w : width - 1 + 2 ≡ width + 1 = omega arith in
          let inner : slice_index new (width + 1) ≡ cell width plane (y + 2) (width + 1) = subst (λ (n : ℕ). slice_index new n ≡ cell width plane (y + 2) n) w (s (width - 1) (omega arith) ∙ sym (cell_at width plane y (width - 1) (omega arith))) in
          let at : slice_index new (width + 2) ≡ cell width plane (y + 2) (width + 2) = r ∙ inner ∙ sym (cell_last width plane y some) in
          subst (λ (n : ℕ). slice_index new (n + 2) ≡ cell width plane (y + 2) (n + 2)) (sym last) at
    ])

-- a line brought in
line_loaded : (half : ℕ) (green : Bool) (pixels : List ℕ) (p width : ℕ) (plane : ℕ → ℕ → ℕ) (y : ℕ) (old new : Lines) → 1 ≤ width → IsLoaded half green pixels p width old new → ((x : ℕ) → x < width → plane y x ≡ plane_sample half green (pixel_in pixels x) p) → HoldsLine width plane (y + 1) old.line.items → HoldsLine width plane (y + 2) new.line.items
line_loaded half green pixels p width plane y old new some l same h = record {
  each = λ place within.
      loaded_at width plane y new.line.items old.line.items place some (l.left_left) (l.left) (l.right) (λ x b. l.samples x b ∙ sym (same x b)) (h.each 2 (omega arith)) within;
}

-- the lines hold what they should, as the line is coded
pub lines_loaded : (half : ℕ) (green : Bool) (pixels : List ℕ) (p width : ℕ) (plane : ℕ → ℕ → ℕ) (y : ℕ) (old new : Lines) → 1 ≤ width → IsLoaded half green pixels p width old new → ((x : ℕ) → x < width → plane y x ≡ plane_sample half green (pixel_in pixels x) p) → HoldsAbove width plane y old → HoldsLines width plane y new
lines_loaded half green pixels p width plane y old new some l same h = record {
  above2 = subst (HoldsLine width plane y) (sym l.above2) h.above;
  above = subst (HoldsLine width plane (y + 1)) (sym l.above) h.line;
  line = line_loaded half green pixels p width plane y old new some l same h.line;
}

-- and behind it
pub lines_left : (width : ℕ) (plane : ℕ → ℕ → ℕ) (y : ℕ) (lines : Lines) → HoldsLines width plane y lines → HoldsAbove width plane (y + 1) lines
lines_left width plane y lines h =
    let e : y + 1 + 1 ≡ y + 2 = omega arith in
    record { above = h.above; line = rw e h.line }

-- before the first line
pub nothing_above : (width : ℕ) (plane : ℕ → ℕ → ℕ) (len : ℕ) (lines : Lines) → IsBlank len lines → width + 3 ≤ len → HoldsAbove width plane 0 lines
unfolding cell
nothing_above width plane len lines b long = record {
  above = record { each = λ place within. ap (λ (xs : List ℕ). slice_index xs place) b.above ∙ get_or-replicate len place 0 0 (omega arith) };
  line = record { each = λ place within. ap (λ (xs : List ℕ). slice_index xs place) b.line ∙ get_or-replicate len place 0 0 (omega arith) };
}

zeros_below : (most len : ℕ) (xs : List ℕ) → 0 < most → xs ≡ replicate len 0 → AreBelow most xs
zeros_below most len xs some is = record {
  each = λ k. elim (cases_lt k len) as (λ _. slice_index xs k < most) [
    | inl below ↦ (let e : slice_index xs k ≡ 0 = ap (λ (l : List ℕ). slice_index l k) is ∙ get_or-replicate len k 0 0 below in omega arith)
    | inr past ↦ (let len_is : length xs ≡ len = ap length is ∙ length-replicate len 0 in let e : slice_index xs k ≡ 0 = get_or_past xs k 0 (omega arith) in omega arith)
  ];
}

pub blank_ready : (width most len : ℕ) (lines : Lines) → 0 < most → IsBlank len lines → width + 3 ≤ len → AreReady width most lines
blank_ready width most len lines some b long =
    let l2 : length lines.above2.items ≡ len = ap length b.above2 ∙ length-replicate len 0 in
    let l1 : length lines.above.items ≡ len = ap length b.above ∙ length-replicate len 0 in
    let l0 : length lines.line.items ≡ len = ap length b.line ∙ length-replicate len 0 in
    record {
      above2 = zeros_below most len lines.above2.items some b.above2;
      above = zeros_below most len lines.above.items some b.above;
      line = zeros_below most len lines.line.items some b.line;
      above2_long = omega arith;
      above_long = omega arith;
      line_long = omega arith;
    }

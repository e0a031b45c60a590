-- A line of samples with its borders.
use Rattle.std.proofs.Common.{◌≡◌, ℕ, zero, suc, ◌+◌, ◌*◌, ◌<◌, ◌≤◌, List, Bool, length, sym, ap, ◌∙◌, subst, arith, inl, inr}
use Rattle.std.proofs.lemmas.Bool.{cases_lt}
use Rattle.std.specs.Prelude.{slice_index}
use Rattle.ffv1_slice.specs.declared.lines.Lines.{Lines}
use Rattle.ffv1_slice.specs.Below.{AreBelow}
use Rattle.ffv1_slice.specs.Borders.{IsBordered}
use Rattle.ffv1_slice.specs.Loading.{AreSamples}
use Rattle.ffv1_slice.specs.Planes.{AreReady, IsLoaded}

-- the borders are as low as the samples
border_low : (most : ℕ) (above new : List ℕ) (k : ℕ) → 0 < most → AreBelow most above → slice_index new 0 ≡ 0 → slice_index new 1 ≡ slice_index above 2 → k < 2 → slice_index new k < most
border_low most above new zero some a l2 l1 low = omega arith
border_low most above new (suc zero) some a l2 l1 low = let l : slice_index above 2 < most = a.each 2 in omega arith
border_low most above new (suc (suc k)) some a l2 l1 low = absurd (omega arith)

bordered_below : (most width : ℕ) (above old new : List ℕ) → 0 < most → AreBelow most above → AreBelow most old → IsBordered width above old new → AreBelow most new
bordered_below most width above old new some a o b = record {
  each = λ k. elim (cases_lt k 2) as (λ _. slice_index new k < most) [
    | inl low ↦ border_low most above new k some a b.left_left b.left low
    | inr high ↦ elim (cases_lt k (width + 2)) as (λ _. slice_index new k < most) [
      | inl inside ↦ (let e : slice_index new k ≡ slice_index old k = b.within k high inside in let l : slice_index old k < most = o.each k in omega arith)
      | inr past ↦ elim (cases_lt k (width + 3)) as (λ _. slice_index new k < most) [
        | inl last ↦
            let is : k ≡ width + 2 = omega arith in
            let l : slice_index old (width + 1) < most = o.each (width + 1) in
            let e : slice_index new k ≡ slice_index old (width + 1) = ap (λ (n : ℕ). slice_index new n) is ∙ b.right in
            omega arith
        | inr behind ↦ (let e : slice_index new k ≡ slice_index old k = b.behind k behind in let l : slice_index old k < most = o.each k in omega arith)
      ]
    ]
  ];
}

pub brought_in : (half : ℕ) (green : Bool) (pixels : List ℕ) (plane width : ℕ) (old new : Lines) (samples : List ℕ) → 0 < half → 1 ≤ width → AreReady width (2 * half) old → AreSamples half green pixels plane width old.above2.items samples → new.above2.items ≡ old.above.items → new.above.items ≡ old.line.items → IsBordered width old.line.items samples new.line.items → IsLoaded half green pixels plane width old new
brought_in half green pixels plane width old new samples some wide ready are e2 e1 b =
    let low : AreBelow (2 * half) samples = are.below ready.above2 in
    let long2 : width + 3 ≤ length old.above2.items = ready.above2_long in
    let long1 : width + 3 ≤ length old.above.items = ready.above_long in
    let long0 : width + 3 ≤ length old.line.items = ready.line_long in
    let count : length samples ≡ length old.above2.items = are.count_same in
    let count' : length new.line.items ≡ length samples = b.count in
    let l2 : length new.above2.items ≡ length old.above.items = ap length e2 in
    let l1 : length new.above.items ≡ length old.line.items = ap length e1 in
    record {
      above2 = e2;
      above = e1;
      left_left = b.left_left;
      left = b.left;
      right = b.right ∙ sym (b.within (width + 1) (omega arith) (omega arith));
      samples = λ x within. b.within (x + 2) (omega arith) (omega arith) ∙ are.each x within;
      ready = record {
        above2 = subst (AreBelow (2 * half)) (sym e2) ready.above;
        above = subst (AreBelow (2 * half)) (sym e1) ready.line;
        line = bordered_below (2 * half) width old.line.items samples new.line.items (omega arith) ready.line low b;
        above2_long = omega arith;
        above_long = omega arith;
        line_long = omega arith;
      };
    }

-- the same, where the line was lent
pub brought_lent : (half : ℕ) (green : Bool) (pixels : List ℕ) (plane width : ℕ) (old new : Lines) (start above lent samples : List ℕ) → 0 < half → 1 ≤ width → AreReady width (2 * half) old → AreSamples half green pixels plane width start samples → start ≡ old.above2.items → lent ≡ samples → new.above2.items ≡ old.above.items → new.above.items ≡ old.line.items → above ≡ old.line.items → IsBordered width above lent new.line.items → IsLoaded half green pixels plane width old new
brought_lent half green pixels plane width old new start above lent samples some wide ready are e s e2 e1 a b =
    let are' : AreSamples half green pixels plane width old.above2.items samples = subst (λ (xs : List ℕ). AreSamples half green pixels plane width xs samples) e are in
    let b' : IsBordered width old.line.items lent new.line.items = subst (λ (xs : List ℕ). IsBordered width xs lent new.line.items) a b in
    let b'' : IsBordered width old.line.items samples new.line.items = subst (λ (xs : List ℕ). IsBordered width old.line.items xs new.line.items) s b' in
    brought_in half green pixels plane width old new samples some wide ready are' e2 e1 b''

pub ruleset bringing = (brought_in)

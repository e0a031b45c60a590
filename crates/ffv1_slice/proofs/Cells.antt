-- Lines with their borders, and what the samples around a sample depend on.
use Rattle.std.proofs.Common.{◌≡◌, ℕ, zero, suc, ◌+◌, ◌-◌, ◌<◌, ◌≤◌, min, refl, sym, subst, arith}
use Rattle.std.proofs.Math.Nat.{min-le_right, min-le_left}
use Rattle.ffv1_slice.specs.Plane.{cell, around_at}

-- two planes are the same in the lines above y
abbrev pub SameAbove : ℕ → (ℕ → ℕ → ℕ) → (ℕ → ℕ → ℕ) → ℕ → Type 0
SameAbove width p q y = (y' x' : ℕ) → y' < y → x' < width → p y' x' ≡ q y' x'

pub cell_above : (width : ℕ) (p q : ℕ → ℕ → ℕ) (y line place : ℕ) → 1 ≤ width → SameAbove width p q y → line < y + 2 → cell width p line place ≡ cell width q line place
unfolding cell
cell_above width p q y zero place some same below = refl
cell_above width p q y (suc zero) place some same below = refl
cell_above width p q y (suc (suc r)) zero some same below = refl
cell_above width p q y (suc (suc zero)) (suc zero) some same below = refl
cell_above width p q y (suc (suc (suc r))) (suc zero) some same below = same r 0 (omega arith) (omega arith)
cell_above width p q y (suc (suc r)) (suc (suc x)) some same below =
    let within : min x (width - 1) ≤ width - 1 = min-le_right x (width - 1) in
    same r (min x (width - 1)) (omega arith) (omega arith)

-- left of place x of line y
pub cell_left : (width : ℕ) (p q : ℕ → ℕ → ℕ) (y x line place : ℕ) → 1 ≤ width → SameAbove width p q y → ((x' : ℕ) → x' < x → p y x' ≡ q y x') → line ≡ y + 2 → place < x + 2 → cell width p line place ≡ cell width q line place
unfolding cell
cell_left width p q y x zero place some same left is below = refl
cell_left width p q y x (suc zero) place some same left is below = refl
cell_left width p q y x (suc (suc r)) zero some same left is below = refl
cell_left width p q y x (suc (suc zero)) (suc zero) some same left is below = refl
cell_left width p q y x (suc (suc (suc r))) (suc zero) some same left is below = same r 0 (omega arith) (omega arith)
cell_left width p q y x (suc (suc r)) (suc (suc k)) some same left is below =
    let within : min k (width - 1) ≤ k = min-le_left k (width - 1) in
    let e : r ≡ y = omega arith in
    let f : p y (min k (width - 1)) ≡ q y (min k (width - 1)) = left (min k (width - 1)) (omega arith) in
    subst (λ (n : ℕ). p n (min k (width - 1)) ≡ q n (min k (width - 1))) (sym e) f

-- a sample's surroundings are the same where all before it is
pub around_same : (width : ℕ) (p q : ℕ → ℕ → ℕ) (y x : ℕ) → 1 ≤ width → SameAbove width p q y → ((x' : ℕ) → x' < x → p y x' ≡ q y x') → around_at width p y x ≡ around_at width q y x
around_same width p q y x some same left =
    let aa : cell width p y (x + 2) ≡ cell width q y (x + 2) = cell_above width p q y y (x + 2) some same (omega arith) in
    let al : cell width p (y + 1) (x + 1) ≡ cell width q (y + 1) (x + 1) = cell_above width p q y (y + 1) (x + 1) some same (omega arith) in
    let ab : cell width p (y + 1) (x + 2) ≡ cell width q (y + 1) (x + 2) = cell_above width p q y (y + 1) (x + 2) some same (omega arith) in
    let ar : cell width p (y + 1) (x + 3) ≡ cell width q (y + 1) (x + 3) = cell_above width p q y (y + 1) (x + 3) some same (omega arith) in
    let le : cell width p (y + 2) (x + 1) ≡ cell width q (y + 2) (x + 1) = cell_left width p q y x (y + 2) (x + 1) some same left refl (omega arith) in
    let ll : cell width p (y + 2) x ≡ cell width q (y + 2) x = cell_left width p q y x (y + 2) x some same left refl (omega arith) in
    rw (aa, al, ab, ar, le, ll) refl

-- Differences folded, and sums wrapped.
use Rattle.std.proofs.Common.{◌≡◌, ℕ, ◌+◌, ◌-◌, ◌*◌, ◌%◌, ◌<◌, ◌≤◌, ap, ◌∙◌, arith}
use Rattle.std.proofs.lemmas.Int.{ints}
use Rattle.std.proofs.lemmas.Nat.{mod-mul-add}
use Rattle.std.specs.Prelude.{pos, ◌-ℤ◌}
use Rattle.ffv1_slice.specs.Plane.{folded}

pub mod_is : (n w q r : ℕ) → n ≡ q * w + r → r < w → n % w ≡ r
mod_is n w q r e below = ap (λ (m : ℕ). m % w) e ∙ mod-mul-add q w r below

-- below half, and from half on
pub folded_low : (half apart r q : ℕ) → apart ≡ q * (2 * half) + r → r < half → folded half apart ≡ pos r
folded_low half apart r q e below =
    let m : (apart + half) % (2 * half) ≡ r + half = mod_is (apart + half) (2 * half) q (r + half) (omega arith) (omega arith) in
    ap (λ (n : ℕ). pos n -ℤ pos half) m ∙ (omega (arith, ints))

pub folded_high : (half apart r q : ℕ) → apart ≡ q * (2 * half) + r → half ≤ r → r < 2 * half → folded half apart ≡ pos r -ℤ pos (2 * half)
folded_high half apart r q e least below =
    let m : (apart + half) % (2 * half) ≡ r - half = mod_is (apart + half) (2 * half) (q + 1) (r - half) (omega arith) (omega arith) in
    ap (λ (n : ℕ). pos n -ℤ pos half) m ∙ (omega (arith, ints))

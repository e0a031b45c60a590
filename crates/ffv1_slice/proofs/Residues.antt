-- What is left of sums and values, divided by a power of two.
use Rattle.std.proofs.Common.{◌≡◌, ℕ, suc, ◌+◌, ◌-◌, ◌*◌, ◌%◌, ◌^◌, ◌<◌, ◌≤◌, refl, sym, ap, ◌∙◌, subst, arith, w32, of_z}
use Rattle.std.specs.Prelude.{ℤ, pos, negsuc, ◌+ℤ◌, unsigned_abs}
use Rattle.std.specs.Int.{int_rem_euclid}
use Rattle.std.specs.Int.Bits.{bit_and}
use Rattle.std.proofs.lemmas.Int.{ints, int_rem_euclid_is}
use Rattle.std.proofs.lemmas.Nat.{and_mask, pow-add}
use Rattle.std.proofs.Math.Nat.{pow-suc}
use Rattle.ffv1_slice.specs.Below.{IsHalf}

-- by a mask
pub masked : (half n : ℕ) → IsHalf half → bit_and n (2 * half - 1) ≡ n % (2 * half)
masked half n h =
    let power : 2 ^ suc h.bits ≡ 2 ^ h.bits * 2 = pow-suc 2 h.bits in
    let is : half ≡ 2 ^ h.bits = h.power in
    let whole : 2 ^ suc h.bits ≡ 2 * half = omega arith in
    subst (λ (w : ℕ). bit_and n (w - 1) ≡ n % w) whole (and_mask n (suc h.bits))

-- 2 ^ 32 is a multiple of such a power
words : (bits : ℕ) → bits ≤ 16 → 2 ^ (31 - bits) * (2 * 2 ^ bits) ≡ 4294967296
words bits few =
    let all : 2 ^ ((31 - bits) + suc bits) ≡ 2 ^ (31 - bits) * 2 ^ suc bits = pow-add 2 (31 - bits) (suc bits) in
    let sum : (31 - bits) + suc bits ≡ 32 = omega arith in
    let twice : 2 ^ suc bits ≡ 2 ^ bits * 2 = pow-suc 2 bits in
    let power : 2 ^ suc bits ≡ 2 * 2 ^ bits = omega arith in
    let word : 2 ^ ((31 - bits) + suc bits) ≡ 4294967296 = ap (λ (n : ℕ). 2 ^ n) sum in
    ap (λ (n : ℕ). 2 ^ (31 - bits) * n) (sym power) ∙ sym all ∙ word

-- a value by its bits in a word
residue_at : (value : ℤ) (whole n times : ℕ) → 0 < whole → value +ℤ pos (times * whole) ≡ pos n → n % whole ≡ unsigned_abs (int_rem_euclid value (pos whole))
residue_at value whole n times some is = sym (ap unsigned_abs (int_rem_euclid_is value (pos whole) whole times n some refl is))

pub residue_is : (half : ℕ) (value : ℤ) → IsHalf half → unsigned_abs value < 2147483648 → of_z w32 value % (2 * half) ≡ unsigned_abs (int_rem_euclid value (pos (2 * half)))
residue_is half (pos m) h small =
    let some : 256 ≤ half = h.least in
    residue_at (pos m) (2 * half) m 0 (omega arith) (omega (arith, ints))
residue_is half (negsuc m) h small =
    let some : 256 ≤ half = h.least in
    let few : h.bits ≤ 16 = h.few in
    let half_is : half ≡ 2 ^ h.bits = h.power in
    let word : 2 ^ (31 - h.bits) * (2 * half) ≡ 4294967296 = ap (λ (n : ℕ). 2 ^ (31 - h.bits) * (2 * n)) half_is ∙ words h.bits few in
    let is : negsuc m +ℤ pos 4294967296 ≡ pos (4294967296 - suc m) = omega (arith, ints) in
    let sum : negsuc m +ℤ pos (2 ^ (31 - h.bits) * (2 * half)) ≡ pos (4294967296 - suc m) = ap (λ (n : ℕ). negsuc m +ℤ pos n) word ∙ is in
    residue_at (negsuc m) (2 * half) (4294967296 - suc m) (2 ^ (31 - h.bits)) (omega arith) sum

pub ruleset residues = (masked, residue_is)

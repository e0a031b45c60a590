-- What is read of a list of bytes.
use Rattle.std.proofs.Common.{◌≡◌, ℕ, zero, suc, ◌+◌, ◌-◌, ◌*◌, ◌/◌, ◌%◌, ◌^◌, ◌<◌, ◌≤◌, true, IsTrue, nat_le, List, ◌∷◌, ◌++◌, length, slice_index, Some, refl, ap, sym, ◌∙◌, arith, length-append}
use Rattle.std.proofs.Math.Nat.{div-one, div-lt_iff_lt-mul, le-div_iff_mul-le, mod-eq_of_lt, mul_assoc, one-le-pow, pow-suc}
use Rattle.std.proofs.Math.Pow.{pow_mono}
use Rattle.std.proofs.lemmas.Nat.{pow-add}
use Rattle.std.proofs.lemmas.Bool.{le-leb}
use Rattle.std.proofs.lemmas.Bool.Decides.{nat_tests}
use Rattle.std.specs.Int.{byte_at, bytes_high_first}
use Rattle.std.specs.Int.Count.{count_leading_zeros, leading_unique}
use Rattle.byteorder.specs.Endian.{big_number}
use Rattle.byteorder.specs.Numbers.{big_from-lt, length-bytes_high_first}
use Rattle.byteorder.proofs.Bytes.{pow256}
use Rattle.ebml_core.specs.Element.{is_vint}
use Rattle.ebml_core.specs.Reading.{width_of, vint_len}

-- the number in four bytes or fewer has 32 bits
pub number_of_four : (len : ℕ) (bytes : List ℕ) → len ≤ 4 → ((i : ℕ) → slice_index bytes i < 256) → big_number len bytes < 2 ^ 32
number_of_four len bytes short all =
    let below = big_from-lt 0 len bytes all in
    let power = pow256 len in
    let most : 2 ^ (8 * len) ≤ 2 ^ 32 = pow_mono {i = 8 * len} {j = 32} (omega arith) in
    omega (arith, below, power)

-- a byte of a number, by its place
pub byte_at-power : (k n : ℕ) → byte_at k n ≡ n / 256 ^ k % 256
byte_at-power zero n = let e = div-one n in ap (λ (x : ℕ). x % 256) (sym e)
byte_at-power (suc k) n = refl

pub pow_pos256 : (k : ℕ) → 0 < 256 ^ k
pow_pos256 k = let h = one-le-pow k 256 (omega arith) in omega arith

-- the powers between which the first byte of a VINT of k + 1 bytes stands, at the whole number
pub first_power : (k : ℕ) → k ≤ 7 → 2 ^ (7 - k) * 256 ^ k ≡ 2 ^ (7 * suc k)
first_power k h =
    let sum : 7 - k + 8 * k ≡ 7 * suc k = omega arith in
    let product : 2 ^ (7 - k + 8 * k) ≡ 2 ^ (7 - k) * 2 ^ (8 * k) = pow-add 2 (7 - k) (8 * k) in
    rw (pow256 k) (sym product ∙ ap (λ (n : ℕ). 2 ^ n) sum)

-- what a test of a VINT says
pub vint_low : (len n : ℕ) → IsTrue (is_vint len n) → 2 ^ (7 * len) ≤ n
vint_low len n h = grind (arith, nat_tests)

pub vint_high : (len n : ℕ) → IsTrue (is_vint len n) → n < 2 * 2 ^ (7 * len)
vint_high len n h =
    let plus : 7 * len + 1 ≡ suc (7 * len) = omega arith in
    let power : 2 ^ (7 * len + 1) ≡ 2 ^ (7 * len) * 2 = ap (λ (k : ℕ). 2 ^ k) plus ∙ pow-suc 2 (7 * len) in
    let below : n < 2 ^ (7 * len + 1) = grind (arith, nat_tests) in
    omega arith

-- the first byte of a VINT has its marker after as many zeros as bytes follow
first_of_vint : (k n : ℕ) → k ≤ 7 → 2 ^ (7 * suc k) ≤ n → n < 2 * 2 ^ (7 * suc k) → (2 ^ (7 - k) ≤ byte_at k n) × (byte_at k n < 2 * 2 ^ (7 - k))
first_of_vint k n h low high =
    let power = first_power k h in
    let positive : 0 < 256 ^ k = pow_pos256 k in
    let least : 2 ^ (7 - k) ≤ n / 256 ^ k = (le-div_iff_mul-le {k = 256 ^ k} {x = 2 ^ (7 - k)} {y = n} positive).1 (omega arith) in
    let twice : 2 * 2 ^ (7 - k) * 256 ^ k ≡ 2 * 2 ^ (7 * suc k) = mul_assoc 2 (2 ^ (7 - k)) (256 ^ k) ∙ ap (λ (x : ℕ). 2 * x) power in
    let most : n / 256 ^ k < 2 * 2 ^ (7 - k) = (div-lt_iff_lt-mul {k = 256 ^ k} {x = n} {y = 2 * 2 ^ (7 - k)} positive).1 (omega arith) in
    let small : 2 ^ (7 - k) ≤ 2 ^ 7 = pow_mono {i = 7 - k} {j = 7} (omega arith) in
    let whole : n / 256 ^ k % 256 ≡ n / 256 ^ k = mod-eq_of_lt (omega arith) in
    rw (byte_at-power k n, whole) (least, most)

-- and so its width is read off its leading zeros
width_of-vint : (k n : ℕ) → k ≤ 7 → 2 ^ (7 * suc k) ≤ n → n < 2 * 2 ^ (7 * suc k) → width_of (byte_at k n) ≡ suc k
width_of-vint k n h low high =
    let bounds = first_of_vint k n h low high in
    let up : 2 ^ suc (7 - k) ≡ 2 ^ (7 - k) * 2 = pow-suc 2 (7 - k) in
    let zeros : k ≡ count_leading_zeros 8 (byte_at k n) = leading_unique 8 (byte_at k n) k (suc (7 - k)) (omega arith) (omega (arith, bounds.1)) (omega (arith, bounds.0)) in
    omega arith

-- each spelling of a VINT has the length that is read
pub vint_len-spelled : (most len n : ℕ) (rest : List ℕ) → 1 ≤ len → len ≤ most → most ≤ 8 → 2 ^ (7 * len) ≤ n → n < 2 * 2 ^ (7 * len) → vint_len most (bytes_high_first len n ++ rest) ≡ Some len
unfolding vint_len
vint_len-spelled most zero n rest one within eight low high = absurd (omega arith)
vint_len-spelled most (suc k) n rest one within eight low high =
    let width = width_of-vint k n (omega arith) low high in
    let more : suc k ≤ length (byte_at k n ∷ (bytes_high_first k n ++ rest)) = omega (arith, length-append (bytes_high_first k n) rest, length-bytes_high_first k n) in
    let first_test : nat_le (suc k) most ≡ true = le-leb (suc k) most within in
    let second_test : nat_le (suc k) (length (byte_at k n ∷ (bytes_high_first k n ++ rest))) ≡ true = le-leb (suc k) _ more in
    rw (width, first_test, second_test) refl

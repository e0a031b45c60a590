-- The exponent and the bits of a double.
use Rattle.std.proofs.Common.{◌≡◌, ℕ, suc, ◌+◌, ◌-◌, ◌*◌, ◌%◌, ◌^◌, ◌<◌, ◌≤◌, ap, ◌∙◌, arith}
use Rattle.std.proofs.lemmas.Bool.{lt-ltb, le-ltb}
use Rattle.std.proofs.Math.Nat.{mod-eq_of_lt, mul-lt-mul_of_pos_right, pow-suc}
use Rattle.std.proofs.lemmas.Nat.{pow-add, pow_pos, one_shl}
use Rattle.std.proofs.Math.Pow.{pow_mono}
use Rattle.ebml_core.proofs.Lengths.{least_from-is}
use Rattle.ebml_core.specs.Rate.{is_below_next_power, exponent_of, double_bits}

-- the exponent lies between the two powers
pub exponent_of-is : (value k : ℕ) → k < 64 → 2 ^ k ≤ value → value < 2 * 2 ^ k → exponent_of value ≡ k
unfolding exponent_of
exponent_of-is value k small low high =
    let next : 2 ^ suc k ≡ 2 ^ k * 2 = pow-suc 2 k in
    let plus : k + 1 ≡ suc k = omega arith in
    least_from-is (is_below_next_power value) 0 63 k (omega arith) (omega arith)
    (lt-ltb value (2 ^ (k + 1)) (rw plus (omega arith)))
    (λ j before. let smaller : 2 ^ (j + 1) ≤ 2 ^ k = pow_mono {i = j + 1} {j = k} (omega arith) in le-ltb value (2 ^ (j + 1)) (omega arith))

-- what stands below the leading one fits its 52 bits
below_fits : (e value : ℕ) → e < 32 → 2 ^ e ≤ value → value < 2 * 2 ^ e → (value - 2 ^ e) * 2 ^ (52 - e) < 2 ^ 52
below_fits e value small low high =
    let less : value - 2 ^ e < 2 ^ e = omega arith in
    let product : 2 ^ (e + (52 - e)) ≡ 2 ^ e * 2 ^ (52 - e) = pow-add 2 e (52 - e) in
    let whole : e + (52 - e) ≡ 52 = omega arith in
    let times : (value - 2 ^ e) * 2 ^ (52 - e) < 2 ^ e * 2 ^ (52 - e) = mul-lt-mul_of_pos_right less (pow_pos (52 - e)) in
    let whole_power : 2 ^ (e + (52 - e)) ≡ 2 ^ 52 = ap (λ (n : ℕ). 2 ^ n) whole in
    omega (arith, times)

-- code's sum is the double's bits
pub sum_is_bits : (e bias value below : ℕ) → e < 32 → 2 ^ e ≤ value → value < 2 * 2 ^ e → bias ≡ e → below ≡ value - 1 * 2 ^ e % 2 ^ 32 → (1023 + bias) * 2 ^ 52 % 2 ^ 64 + below * 2 ^ (52 - e) % 2 ^ 64 ≡ double_bits (exponent_of value) value
unfolding double_bits
sum_is_bits e bias value below small low high is_e is_below =
    let one : 1 * 2 ^ e % 2 ^ 32 ≡ 2 ^ e = one_shl e 32 small in
    let same : below ≡ value - 2 ^ e = is_below ∙ ap (λ (n : ℕ). value - n) one in
    let product : below * 2 ^ (52 - e) ≡ (value - 2 ^ e) * 2 ^ (52 - e) = ap (λ (n : ℕ). n * 2 ^ (52 - e)) same in
    let fits = below_fits e value small low high in
    let whole : below * 2 ^ (52 - e) % 2 ^ 64 ≡ below * 2 ^ (52 - e) = mod-eq_of_lt (omega (arith, fits)) in
    rw (exponent_of-is value e (omega arith) low high) (omega arith)

pub bits_fit : (e value : ℕ) → e < 32 → 2 ^ e ≤ value → value < 2 * 2 ^ e → double_bits (exponent_of value) value < 2 ^ 64
unfolding double_bits
bits_fit e value small low high =
    let fits = below_fits e value small low high in
    rw (exponent_of-is value e (omega arith) low high) (omega (arith, fits))

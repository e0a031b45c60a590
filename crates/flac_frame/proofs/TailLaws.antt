-- Fields that are gathered into words of 32 bits.
use Rattle.std.proofs.Common.{◌≡◌, ℕ, ◌-◌, ◌+◌, ◌*◌, ◌/◌, ◌%◌, ◌^◌, ◌≤◌, ◌<◌, Bool, List, ◌++◌, sym, ap, ◌∙◌, append_assoc, arith}
use Rattle.std.proofs.lemmas.List.{append-nil}
use Rattle.std.proofs.Math.Nat.{div-lt_iff_lt-mul, mul-le-mul_right}
use Rattle.std.proofs.Math.Pow.{pow_mono}
use Rattle.std.proofs.lemmas.Nat.{pow_pos, pow-add, mod_below}
use Rattle.cook_bits.specs.Bits.{low_bits}
use Rattle.flac_frame.proofs.WritingLaws.{low_cat}

-- a number of t bits and one of k behind it
one_behind : (n p q v : ℕ) → n < p → v < q → n * q + v < p * q
one_behind n p q v lt fits =
    let a : (n + 1) * q ≤ p * q = mul-le-mul_right q (omega arith) in
    omega (arith, a)

joined_fits : (t k n v : ℕ) → n < 2 ^ t → v < 2 ^ k → n * 2 ^ k + v < 2 ^ (t + k)
joined_fits t k n v lt fits = rw (pow-add 2 t k) (one_behind n (2 ^ t) (2 ^ k) v lt fits)

wide : (t k : ℕ) → t < 32 → k ≤ 32 → 2 ^ (t + k) ≤ 9223372036854775808
wide t k short few = pow_mono {i = t + k} {j = 63} (omega arith)

-- the number of both, as 64 bits hold it
pub joined_is : (t k n v f : ℕ) → t < 32 → k ≤ 32 → n < 2 ^ t → v < 2 ^ k → f ≡ v → n * 2 ^ k % 18446744073709551616 + f ≡ n * 2 ^ k + v
joined_is t k n v f short few lt fits e =
    let a = joined_fits t k n v lt fits in
    let b = wide t k short few in
    omega arith

pub joined_bits : (writer : List Bool) (t k n v f : ℕ) → t < 32 → k ≤ 32 → n < 2 ^ t → v < 2 ^ k → f ≡ v
    → writer ++ low_bits (t + k) (n * 2 ^ k % 18446744073709551616 + f) ≡ writer ++ low_bits t n ++ low_bits k v
joined_bits writer t k n v f short few lt fits e =
    ap (λ (m : ℕ). writer ++ low_bits (t + k) m) (joined_is t k n v f short few lt fits e)
    ∙ ap (λ (bits : List Bool). writer ++ bits) (low_cat t k n v fits) ∙ sym (append_assoc writer (low_bits t n) (low_bits k v))

pub joined_tail : (t k n v f : ℕ) → t < 32 → k ≤ 32 → n < 2 ^ t → v < 2 ^ k → f ≡ v → n * 2 ^ k % 18446744073709551616 + f < 2 ^ (t + k)
joined_tail t k n v f short few lt fits e = rw (joined_is t k n v f short few lt fits e) (joined_fits t k n v lt fits)

-- the first 32 of its bits are a word
pub word_fits : (t k n v f : ℕ) → t < 32 → k ≤ 32 → n < 2 ^ t → v < 2 ^ k → f ≡ v → 32 ≤ t + k → (n * 2 ^ k % 18446744073709551616 + f) / 2 ^ (t + k - 32) < 4294967296
word_fits t k n v f short few lt fits e long =
    let l = t + k - 32 in
    let a = joined_tail t k n v f short few lt fits e in
    let s : 2 ^ (t + k) ≡ 2 ^ 32 * 2 ^ l = ap (λ m. 2 ^ m) (omega arith) ∙ pow-add 2 32 l in
    (div-lt_iff_lt-mul (pow_pos l)).1 (omega (arith, a, s))

power_is : (l : ℕ) → l < 32 → 1 * 2 ^ l % 18446744073709551616 ≡ 2 ^ l
power_is l short =
    let most : 2 ^ l ≤ 2 ^ 31 = pow_mono {i = l} {j = 31} (omega arith) in
    omega arith

cut : (l j : ℕ) → low_bits (32 + l) j ≡ low_bits 32 (j / 2 ^ l) ++ low_bits l (j % 2 ^ l)
cut l j =
    let e : j ≡ j / 2 ^ l * 2 ^ l + j % 2 ^ l = omega arith in
    ap (low_bits (32 + l)) e ∙ low_cat 32 l (j / 2 ^ l) (j % 2 ^ l) (mod_below j (2 ^ l) (pow_pos l))

pub word_put : (writer new : List Bool) (t k n v f : ℕ) → t < 32 → k ≤ 32 → n < 2 ^ t → v < 2 ^ k → f ≡ v → 32 ≤ t + k
    → new ≡ writer ++ low_bits 32 ((n * 2 ^ k % 18446744073709551616 + f) / 2 ^ (t + k - 32))
    → new ++ low_bits (t + k - 32) ((n * 2 ^ k % 18446744073709551616 + f) % (1 * 2 ^ (t + k - 32) % 18446744073709551616)) ≡ writer ++ low_bits t n ++ low_bits k v
word_put writer new t k n v f short few lt fits e long put =
    let l = t + k - 32 in
    let j = n * 2 ^ k % 18446744073709551616 + f in
    let s : 32 + l ≡ t + k = omega arith in
    ap (λ (m : ℕ). new ++ low_bits l (j % m)) (power_is l (omega arith))
    ∙ ap (λ (bits : List Bool). bits ++ low_bits l (j % 2 ^ l)) put
    ∙ append_assoc writer (low_bits 32 (j / 2 ^ l)) (low_bits l (j % 2 ^ l))
    ∙ ap (λ (bits : List Bool). writer ++ bits) (sym (cut l j) ∙ ap (λ (m : ℕ). low_bits m j) s)
    ∙ joined_bits writer t k n v f short few lt fits e

pub left_fits : (l j : ℕ) → l < 32 → j % (1 * 2 ^ l % 18446744073709551616) < 2 ^ l
left_fits l j short = rw (power_is l short) (mod_below j (2 ^ l) (pow_pos l))

-- a tail of no bits
pub no_tail : (writer : List Bool) → writer ++ low_bits 0 0 ≡ writer
unfolding low_bits
no_tail writer = append-nil writer

-- a value behind a tail, in one field or in more
pub one_field : (was field : List Bool) (bits next : List Bool) → next ≡ was ++ field → field ≡ bits → next ≡ was ++ bits
one_field was field bits next e f = e ∙ ap (λ (more : List Bool). was ++ more) f

pub more_fields : (writer was bits whole : List Bool) → writer ≡ was ++ bits → bits ≡ whole → writer ++ low_bits 0 0 ≡ was ++ whole
more_fields writer was bits whole e f = no_tail writer ∙ e ∙ ap (λ (more : List Bool). was ++ more) f

-- Numbers as rows of bits.
use Rattle.std.proofs.Common.{◌≡◌, ℕ, zero, suc, ◌+◌, ◌-◌, ◌*◌, ◌/◌, ◌%◌, ◌^◌, ◌<◌, ◌≤◌, ◌==◌, Bool, true, false, if◌then◌else◌, List, [], ◌∷◌, ◌++◌, length, refl, sym, ap, ◌∙◌, arith, zero-add, suc-add, bit_xor}
use Rattle.std.specs.Int.{bit_at}
use Rattle.std.proofs.Math.Nat.{pow-suc, mod-one, mod-eq_of_lt}
use Rattle.std.proofs.lemmas.Nat.{mod-pow-add, shr_split, pow_pos, mod_below, xor_lt}
use Rattle.std.proofs.lemmas.Nat.Bits.{bit_at-lt, bit_at-zero, bit_at_xor, bit_at_cat_low, bit_at_cat_high, bit_at_above}
use Rattle.cook_bits.specs.Bits.{low_bits, number_of}
use Rattle.cook_bits.specs.Crc.{sum_of, added}
use Rattle.cook_bits.proofs.Division.{zeros, both}

pub length-low_bits : (count n : ℕ) → length (low_bits count n) ≡ count
unfolding low_bits
length-low_bits zero n = refl
length-low_bits (suc count) n = ap suc (length-low_bits count n)

pub same_bits : (count m n : ℕ) → ((i : ℕ) → i < count → bit_at m i ≡ bit_at n i) → low_bits count m ≡ low_bits count n
unfolding low_bits
same_bits zero m n same = refl
same_bits (suc count) m n same = both (ap (λ b. b == 1) (same count (omega arith))) (same_bits count m n (λ i lt. same i (omega arith)))

xor_bit : (a b : ℕ) → a < 2 → b < 2 → ((a + b) % 2 == 1) ≡ sum_of (a == 1) (b == 1)
xor_bit zero zero p q = refl
xor_bit zero (suc zero) p q = refl
xor_bit (suc zero) zero p q = refl
xor_bit (suc zero) (suc zero) p q = refl
xor_bit zero (suc (suc b)) p q = absurd (omega arith)
xor_bit (suc zero) (suc (suc b)) p q = absurd (omega arith)
xor_bit (suc (suc a)) b p q = absurd (omega arith)

pub low_bits-xor : (count a b : ℕ) → low_bits count (bit_xor a b) ≡ added (low_bits count a) (low_bits count b)
unfolding low_bits added
low_bits-xor zero a b = refl
low_bits-xor (suc count) a b =
    both
    (ap (λ x. x == 1) (bit_at_xor a b count) ∙ xor_bit (bit_at a count) (bit_at b count) (bit_at-lt a count) (bit_at-lt b count))
    (low_bits-xor count a b)

pub low_bits_of_zero : (count : ℕ) → low_bits count 0 ≡ zeros count
unfolding low_bits
low_bits_of_zero zero = refl
low_bits_of_zero (suc count) = both (ap (λ b. b == 1) (bit_at-zero count)) (low_bits_of_zero count)

digit : (b w : ℕ) → b < 2 → (if b == 1 then w else 0) ≡ b * w
digit zero w lt = omega arith
digit (suc zero) w lt = omega arith
digit (suc (suc b)) w lt = absurd (omega arith)

pub number_of-low_bits : (count n : ℕ) → number_of (low_bits count n) ≡ n % 2 ^ count
unfolding low_bits number_of
number_of-low_bits zero n = sym (mod-one n)
number_of-low_bits (suc count) n =
    ap (λ k. (if bit_at n count == 1 then 2 ^ k else 0) + number_of (low_bits count n)) (length-low_bits count n)
    ∙ ap (λ m. m + number_of (low_bits count n)) (digit (bit_at n count) (2 ^ count) (bit_at-lt n count))
    ∙ ap (λ m. bit_at n count * 2 ^ count + m) (number_of-low_bits count n)
    ∙ sym (mod-pow-add n 1 count)
    ∙ ap (λ k. n % 2 ^ k) (omega arith)

pub number_of-lt : (bits : List Bool) → number_of bits < 2 ^ length bits
unfolding number_of
number_of-lt [] = omega arith
number_of-lt (true ∷ bits) = rw pow-suc (omega (arith, number_of-lt bits))
number_of-lt (false ∷ bits) = rw pow-suc (omega (arith, number_of-lt bits))

pub low_bits-cat : (high low a b : ℕ) → b < 2 ^ low → low_bits (high + low) (a * 2 ^ low + b) ≡ low_bits high a ++ low_bits low b
unfolding low_bits
low_bits-cat zero low a b lt = rw zero-add (same_bits low (a * 2 ^ low + b) b (λ i i_lt. bit_at_cat_low a low b i i_lt))
low_bits-cat (suc high) low a b lt =
    rw suc-add (both
    (ap (λ x. x == 1) (bit_at_cat_high a low b (high + low) lt (omega arith) ∙ ap (bit_at a) (omega arith)))
    (low_bits-cat high low a b lt))

pub low_bits-mod : (count k n : ℕ) → count ≤ k → low_bits count (n % 2 ^ k) ≡ low_bits count n
low_bits-mod count k n le =
    same_bits count (n % 2 ^ k) n (λ i lt. sym (bit_at_cat_low (n / 2 ^ k) k (n % 2 ^ k) i (omega arith)) ∙ ap (λ m. bit_at m i) (shr_split n k))

pub low_bits-split : (high low n : ℕ) → low_bits (high + low) n ≡ low_bits high (n / 2 ^ low) ++ low_bits low n
low_bits-split high low n =
    ap (low_bits (high + low)) (sym (shr_split n low))
    ∙ low_bits-cat high low (n / 2 ^ low) (n % 2 ^ low) (mod_below n (2 ^ low) (pow_pos low))
    ∙ ap (λ row. low_bits high (n / 2 ^ low) ++ row) (low_bits-mod low low n (omega arith))

first_digit : (bit : Bool) (count n : ℕ) → n < 2 ^ count → low_bits (suc count) ((if bit then 2 ^ count else 0) + n) ≡ bit ∷ low_bits count n
unfolding low_bits
first_digit true count n lt =
    let e : 2 ^ count + n ≡ 1 * 2 ^ count + n = omega arith in
    let none : count - count ≡ 0 = omega arith in
    let back : bit_at (1 * 2 ^ count + n) count ≡ bit_at 1 0 = bit_at_cat_high 1 count n count lt (omega arith) ∙ ap (bit_at 1) none in
    both (ap (λ m. bit_at m count == 1) e ∙ ap (λ b. b == 1) back) (same_bits count (2 ^ count + n) n (λ i i_lt. ap (λ m. bit_at m i) e ∙ bit_at_cat_low 1 count n i i_lt))
first_digit false count n lt =
    both (ap (λ b. b == 1) (ap (λ m. bit_at m count) (zero-add n) ∙ bit_at_above n count count lt (omega arith))) (ap (low_bits count) (zero-add n))

pub low_bits-number_of : (bits : List Bool) → low_bits (length bits) (number_of bits) ≡ bits
unfolding number_of
low_bits-number_of [] = low_bits_of_zero 0
low_bits-number_of (bit ∷ bits) = first_digit bit (length bits) (number_of bits) (number_of-lt bits) ∙ ap (λ row. bit ∷ row) (low_bits-number_of bits)

pub low_bits_back : (count : ℕ) (bits : List Bool) → length bits ≡ count → low_bits count (number_of bits) ≡ bits
low_bits_back count bits e = ap (λ n. low_bits n (number_of bits)) (sym e) ∙ low_bits-number_of bits

pub number_of-added : (xs ys : List Bool) → length xs ≡ length ys → number_of (added xs ys) ≡ bit_xor (number_of xs) (number_of ys)
number_of-added xs ys e =
    let n = length ys in
    let same : added xs ys ≡ low_bits n (bit_xor (number_of xs) (number_of ys)) =
    ap (λ row. added row ys) (sym (low_bits_back n xs e)) ∙ ap (added (low_bits n (number_of xs))) (sym (low_bits-number_of ys)) ∙ sym (low_bits-xor n (number_of xs) (number_of ys)) in
    let first : number_of xs < 2 ^ n = rw (← e) (number_of-lt xs) in
    let small = xor_lt n (number_of xs) (number_of ys) first (number_of-lt ys) in
    ap number_of same ∙ number_of-low_bits n (bit_xor (number_of xs) (number_of ys)) ∙ mod-eq_of_lt small

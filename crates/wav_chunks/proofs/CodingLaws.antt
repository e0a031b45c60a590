-- A sample and its bytes tell each other.
use Rattle.std.proofs.Common.{◌≡◌, ◌≢◌, ℕ, zero, suc, ◌+◌, ◌-◌, ◌*◌, ◌/◌, ◌%◌, ◌<◌, ◌⊎◌, inl, inr, ℤ, pos, negsuc, ◌+ℤ◌, ◌-ℤ◌, List, [], ◌∷◌, length, drop, slice_index, slice_set, refl, sym, ◌∙◌, ap, subst, arith}
use Rattle.std.proofs.lemmas.Bool.{cases_lt, lt-ltb, le-ltb}
use Rattle.std.proofs.lemmas.Bool.Decides.{nat_tests}
use Rattle.std.proofs.lemmas.Int.{ints}
use Rattle.std.proofs.lemmas.List.{drop_all}
use Rattle.std.specs.Int.{byte_at, bytes_low_first}
use Rattle.byteorder.specs.Endian.{little_number, little_bytes}
use Rattle.cook_bits.specs.Bits.{AreBytes}
use Rattle.wav_chunks.specs.Samples.{IsDepth, IsInside, signed_of, unsigned_of, sample_of, kept_of, sample_bytes}

-- a fact of each of the three depths
pub each-depth : (P : ℕ → Type 0) → P 8 → P 16 → P 24 → (bits : ℕ) → IsDepth bits → P bits
each-depth P at8 at16 at24 bits h =
    let which : (bits ≡ 8) ⊎ ((bits ≡ 16) ⊎ (bits ≡ 24)) = grind (arith, nat_tests) in
    elim which [
      | inl e ↦ subst P (sym e) at8
      | inr (inl e) ↦ subst P (sym e) at16
      | inr (inr e) ↦ subst P (sym e) at24
    ]

-- a depth that is none of the others
pub depth24 : (bits : ℕ) → IsDepth bits → bits ≢ 8 → bits ≢ 16 → bits ≡ 24
depth24 bits h first second =
    let which : (bits ≡ 8) ⊎ ((bits ≡ 16) ⊎ (bits ≡ 24)) = grind (arith, nat_tests) in
    elim which [
      | inl e ↦ absurd (first e)
      | inr (inl e) ↦ absurd (second e)
      | inr (inr e) ↦ e
    ]

-- ---- the number that is kept

kept8 : (b : ℕ) → b < 256 → kept_of 8 (pos b -ℤ pos 128) ≡ b
unfolding kept_of
kept8 b low = elim (cases_lt b 128) as (λ _. kept_of 8 (pos b -ℤ pos 128) ≡ b) [
  | inl below ↦ let e : pos b -ℤ pos 128 ≡ negsuc (127 - b) = omega (arith, ints, below) in
      let f : 127 - (127 - b) ≡ b = omega (arith, below) in ap (kept_of 8) e ∙ f
  | inr above ↦ let e : pos b -ℤ pos 128 ≡ pos (b - 128) = omega (arith, ints, above) in
      let f : b - 128 + 128 ≡ b = omega (arith, above) in ap (kept_of 8) e ∙ f
]

kept16 : (u : ℕ) → u < 65536 → kept_of 16 (signed_of u 32768) ≡ u
unfolding kept_of
kept16 u low = elim (cases_lt u 32768) as (λ _. kept_of 16 (signed_of u 32768) ≡ u) [
  | inl below ↦ rw (lt-ltb u 32768 below) refl
  | inr above ↦ let e : pos u -ℤ pos 65536 ≡ negsuc (65535 - u) = omega (arith, ints, low) in
      let f : 65536 - suc (65535 - u) ≡ u = omega (arith, low) in rw (le-ltb u 32768 above) (ap (kept_of 16) e ∙ f)
]

kept24 : (u : ℕ) → u < 16777216 → kept_of 24 (signed_of u 8388608) ≡ u
unfolding kept_of
kept24 u low = elim (cases_lt u 8388608) as (λ _. kept_of 24 (signed_of u 8388608) ≡ u) [
  | inl below ↦ rw (lt-ltb u 8388608 below) refl
  | inr above ↦ let e : pos u -ℤ pos 16777216 ≡ negsuc (16777215 - u) = omega (arith, ints, low) in
      let f : 16777216 - suc (16777215 - u) ≡ u = omega (arith, low) in rw (le-ltb u 8388608 above) (ap (kept_of 24) e ∙ f)
]

-- ---- bytes

one-item : (xs : List ℕ) → length xs ≡ 1 → xs ≡ slice_index xs 0 ∷ []
one-item [] long = absurd (omega arith)
one-item (x ∷ []) long = refl
one-item (x ∷ y ∷ xs) long = absurd (omega arith)

two-items : (xs : List ℕ) → length xs ≡ 2 → xs ≡ slice_index xs 0 ∷ slice_index xs 1 ∷ []
two-items [] long = absurd (omega arith)
two-items (x ∷ []) long = absurd (omega arith)
two-items (x ∷ y ∷ []) long = refl
two-items (x ∷ y ∷ z ∷ xs) long = absurd (omega arith)

three-items : (xs : List ℕ) → length xs ≡ 3 → xs ≡ slice_index xs 0 ∷ slice_index xs 1 ∷ slice_index xs 2 ∷ []
three-items [] long = absurd (omega arith)
three-items (x ∷ []) long = absurd (omega arith)
three-items (x ∷ y ∷ []) long = absurd (omega arith)
three-items (x ∷ y ∷ z ∷ []) long = refl
three-items (x ∷ y ∷ z ∷ w ∷ xs) long = absurd (omega arith)

one-equal : (a c : ℕ) → a ≡ c → a ∷ [] ≡ c ∷ []
one-equal a c e = cc

two-equal : (a b c d : ℕ) → a ≡ c → b ≡ d → a ∷ b ∷ [] ≡ c ∷ d ∷ []
two-equal a b c d e f = cc

three-equal : (a b c x y z : ℕ) → a ≡ x → b ≡ y → c ≡ z → a ∷ b ∷ c ∷ [] ≡ x ∷ y ∷ z ∷ []
three-equal a b c x y z e f g = cc

back1 : (xs : List ℕ) → length xs ≡ 1 → AreBytes xs → little_bytes 1 (slice_index xs 0) ≡ xs
back1 xs long are = let a = are 0 in one-equal _ _ (omega arith) ∙ sym (one-item xs long)

back2 : (xs : List ℕ) → length xs ≡ 2 → AreBytes xs → little_bytes 2 (little_number 2 xs) ≡ xs
back2 xs long are = let a = are 0 in let b = are 1 in two-equal _ _ _ _ (omega arith) (omega arith) ∙ sym (two-items xs long)

back3 : (xs : List ℕ) → length xs ≡ 3 → AreBytes xs → little_bytes 3 (little_number 3 xs) ≡ xs
back3 xs long are =
    let a = are 0 in
    let b = are 1 in
    let c = are 2 in
    three-equal _ _ _ _ _ _ (omega arith) (omega arith) (omega arith) ∙ sym (three-items xs long)

-- a sample's bytes are those that hold it
abbrev Back : ℕ → Type 0
Back bits = (xs : List ℕ) → length xs ≡ bits / 8 → AreBytes xs → sample_bytes bits (sample_of bits xs) ≡ xs

back8 : Back 8
unfolding sample_of sample_bytes
back8 xs long are = ap (little_bytes 1) (kept8 (slice_index xs 0) (are 0)) ∙ back1 xs long are

back16 : Back 16
unfolding sample_of sample_bytes
back16 xs long are =
    let a = are 0 in
    let b = are 1 in
    ap (little_bytes 2) (kept16 (little_number 2 xs) (omega arith)) ∙ back2 xs long are

back24 : Back 24
unfolding sample_of sample_bytes
back24 xs long are =
    let a = are 0 in
    let b = are 1 in
    let c = are 2 in
    ap (little_bytes 3) (kept24 (little_number 3 xs) (omega arith)) ∙ back3 xs long are

pub sample-back : (bits : ℕ) → IsDepth bits → (xs : List ℕ) → length xs ≡ bits / 8 → AreBytes xs → sample_bytes bits (sample_of bits xs) ≡ xs
sample-back bits depth = each-depth Back back8 back16 back24 bits depth

-- ---- a sample is in its bytes

abbrev Read : ℕ → Type 0
Read bits = (sample : ℤ) → IsInside bits sample → sample_of bits (sample_bytes bits sample) ≡ sample

read8 : Read 8
unfolding sample_of sample_bytes kept_of
read8 (pos n) inside =
    let low : n < 128 = omega (arith, ints, inside.high) in
    let one : (n + 128) % 256 ≡ n + 128 = omega (arith, low) in
    ap (λ (k : ℕ). pos k -ℤ pos 128) one ∙ omega (arith, ints)
read8 (negsuc n) inside =
    let low : n < 128 = omega (arith, ints, inside.low) in
    let one : (127 - n) % 256 ≡ 127 - n = omega (arith, low) in
    ap (λ (k : ℕ). pos k -ℤ pos 128) one ∙ omega (arith, ints)

-- two's complement of a number in half of the range, and of one above it
signed-low : (u half : ℕ) → u < half → signed_of u half ≡ pos u
signed-low u half low = rw (lt-ltb u half low) refl

signed-high : (n half : ℕ) → n < half → signed_of (2 * half - suc n) half ≡ negsuc n
signed-high n half low =
    let e : pos (2 * half - suc n) -ℤ pos (2 * half) ≡ negsuc n = omega (arith, ints, low) in
    rw (le-ltb (2 * half - suc n) half (omega (arith, low))) e

number2 : (u : ℕ) → u < 65536 → little_number 2 (little_bytes 2 u) ≡ u
number2 u low = omega arith

number3 : (u : ℕ) → u < 16777216 → little_number 3 (little_bytes 3 u) ≡ u
number3 u low = omega arith

read16 : Read 16
unfolding sample_of sample_bytes kept_of
read16 (pos n) inside =
    let low : n < 32768 = omega (arith, ints, inside.high) in
    ap (λ (u : ℕ). signed_of u 32768) (number2 n (omega (arith, low))) ∙ signed-low n 32768 low
read16 (negsuc n) inside =
    let low : n < 32768 = omega (arith, ints, inside.low) in
    ap (λ (u : ℕ). signed_of u 32768) (number2 (65536 - suc n) (omega (arith, low))) ∙ signed-high n 32768 low

read24 : Read 24
unfolding sample_of sample_bytes kept_of
read24 (pos n) inside =
    let low : n < 8388608 = omega (arith, ints, inside.high) in
    ap (λ (u : ℕ). signed_of u 8388608) (number3 n (omega (arith, low))) ∙ signed-low n 8388608 low
read24 (negsuc n) inside =
    let low : n < 8388608 = omega (arith, ints, inside.low) in
    ap (λ (u : ℕ). signed_of u 8388608) (number3 (16777216 - suc n) (omega (arith, low))) ∙ signed-high n 8388608 low

pub sample-read : (bits : ℕ) → IsDepth bits → (sample : ℤ) → IsInside bits sample → sample_of bits (sample_bytes bits sample) ≡ sample
sample-read bits depth = each-depth Read read8 read16 read24 bits depth

-- a sample's bytes are as many as it has
pub length-sample_bytes : (bits : ℕ) → IsDepth bits → (sample : ℤ) → length (sample_bytes bits sample) ≡ bits / 8
unfolding sample_bytes
length-sample_bytes bits depth = each-depth (λ n. (sample : ℤ) → length (sample_bytes n sample) ≡ n / 8) (λ sample. refl) (λ sample. refl) (λ sample. refl) bits depth

byte-low : (place n : ℕ) → byte_at place n < 256
byte-low zero n = omega arith
byte-low (suc place) n = omega arith

bytes-little : (from count n : ℕ) → AreBytes (bytes_low_first from count n)
bytes-little from zero n i = omega arith
bytes-little from (suc count) n zero = byte-low from n
bytes-little from (suc count) n (suc i) = bytes-little (suc from) count n i

-- they are bytes
pub bytes-sample_bytes : (bits : ℕ) (sample : ℤ) → AreBytes (sample_bytes bits sample)
unfolding sample_bytes
bytes-sample_bytes bits sample = bytes-little 0 (bits / 8) (kept_of bits sample)

-- ---- bytes that were written

one-set : (xs : List ℕ) (n : ℕ) → length xs ≡ 1 → slice_set xs 0 n ≡ n ∷ []
one-set [] n long = absurd (omega arith)
one-set (x ∷ []) n long = refl
one-set (x ∷ y ∷ xs) n long = absurd (omega arith)

-- one byte
pub put8 : (sample : ℤ) (bytes : List ℕ) (n : ℕ) → IsInside 8 sample → length bytes ≡ 1 → pos n ≡ sample +ℤ pos 128 → slice_set bytes 0 n ≡ sample_bytes 8 sample
unfolding sample_bytes kept_of
put8 (pos m) bytes n inside long is =
    let low : m < 128 = omega (arith, ints, inside.high) in
    let same : n ≡ m + 128 = omega (arith, ints, is) in
    let one : (m + 128) % 256 ≡ m + 128 = omega (arith, low) in
    one-set bytes n long ∙ one-equal n ((m + 128) % 256) (omega (arith, same, one))
put8 (negsuc m) bytes n inside long is =
    let low : m < 128 = omega (arith, ints, inside.low) in
    let same : n ≡ 127 - m = omega (arith, ints, is, low) in
    let one : (127 - m) % 256 ≡ 127 - m = omega (arith, low) in
    one-set bytes n long ∙ one-equal n ((127 - m) % 256) (omega (arith, same, one))

kept-is16 : (sample : ℤ) → unsigned_of sample 32768 ≡ kept_of 16 sample
unfolding kept_of
kept-is16 (pos n) = refl
kept-is16 (negsuc n) = refl

kept-is24 : (sample : ℤ) → unsigned_of sample 8388608 ≡ kept_of 24 sample
unfolding kept_of
kept-is24 (pos n) = refl
kept-is24 (negsuc n) = refl

-- two bytes, and three: nothing stands behind them
none-behind : (n : ℕ) (xs : List ℕ) → length xs ≡ n → drop n xs ≡ []
none-behind n xs long = drop_all n xs (omega (arith, long))

pub put16 : (sample : ℤ) (kept : ℕ) (old bytes : List ℕ) → kept ≡ unsigned_of sample 32768 → length old ≡ 2 → bytes ≡ kept % 256 ∷ kept / 256 % 256 ∷ drop 2 old
    → bytes ≡ sample_bytes 16 sample
unfolding sample_bytes
put16 sample kept old bytes same long is =
    is ∙ ap (λ xs. kept % 256 ∷ kept / 256 % 256 ∷ xs) (none-behind 2 old long) ∙ ap (little_bytes 2) (same ∙ kept-is16 sample)

pub put24 : (sample : ℤ) (kept : ℕ) (old bytes : List ℕ) → kept ≡ unsigned_of sample 8388608 → length old ≡ 3
    → bytes ≡ kept % 256 ∷ kept / 256 % 256 ∷ kept / 65536 % 256 ∷ drop 3 old → bytes ≡ sample_bytes 24 sample
unfolding sample_bytes
put24 sample kept old bytes same long is =
    is ∙ ap (λ xs. kept % 256 ∷ kept / 256 % 256 ∷ kept / 65536 % 256 ∷ xs) (none-behind 3 old long) ∙ ap (little_bytes 3) (same ∙ kept-is24 sample)

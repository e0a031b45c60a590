-- The number that the first bytes of a list spell.
use Rattle.std.proofs.Common.{◌≡◌, ℕ, zero, suc, ◌+◌, ◌-◌, ◌*◌, ◌/◌, ◌%◌, ◌^◌, ◌<◌, ◌≤◌, List, [], ◌∷◌, ◌++◌, length, take, slice_index, slice_set, refl, sym, ap, ◌∙◌, arith, inl, inr}
use Rattle.std.proofs.Math.Nat.{pow-suc, div-div-eq-div-mul}
use Rattle.std.proofs.Math.ListN.{get_or-append}
use Rattle.std.proofs.Math.Seq.{take-suc}
use Rattle.std.proofs.lemmas.List.{get_or_at, get_or_past, get_or-take, take_all, length-take-le, get_or-set_same, get_or-set_other}
use Rattle.std.proofs.lemmas.Bool.{cases_lt}
use Rattle.std.proofs.lemmas.Nat.{div_below}
use Rattle.std.specs.Int.{byte_at, bytes_high_first}
use Rattle.cook_bits.specs.Bits.{AreBytes}
use Rattle.range_coder.specs.Interval.{first_bytes}

-- the bytes of a number are as many as are asked for, and bytes
pub length-bytes_high_first : (count n : ℕ) → length (bytes_high_first count n) ≡ count
length-bytes_high_first zero n = refl
length-bytes_high_first (suc count) n = ap suc (length-bytes_high_first count n)

byte_small : (count n : ℕ) → byte_at count n < 256
byte_small zero n = omega arith
byte_small (suc count) n = omega arith

pub are_bytes-bytes_high_first : (count n : ℕ) → AreBytes (bytes_high_first count n)
are_bytes-bytes_high_first zero n i = omega arith
are_bytes-bytes_high_first (suc count) n zero = byte_small count n
are_bytes-bytes_high_first (suc count) n (suc i) = are_bytes-bytes_high_first count n i

-- the bytes before a place tell it alone
pub first_bytes-same : (n : ℕ) (xs ys : List ℕ) → ((k : ℕ) → k < n → slice_index xs k ≡ slice_index ys k) → first_bytes n xs ≡ first_bytes n ys
unfolding first_bytes
first_bytes-same zero xs ys same = refl
first_bytes-same (suc n) xs ys same =
    let front = first_bytes-same n xs ys (λ k h. same k (omega arith)) in
    let last = same n (omega arith) in
    rw (front, last) refl

pub first_bytes-append : (n : ℕ) (xs ys : List ℕ) → n ≤ length xs → first_bytes n (xs ++ ys) ≡ first_bytes n xs
first_bytes-append n xs ys h = first_bytes-same n (xs ++ ys) xs (λ k below. get_or-append xs ys 0 k (omega arith))

-- one byte more at the end
pub first_bytes-push : (n : ℕ) (xs : List ℕ) (y : ℕ) → length xs ≡ n → first_bytes (n + 1) (xs ++ y ∷ []) ≡ first_bytes n xs * 256 + y
unfolding first_bytes
first_bytes-push n xs y len =
    let front = first_bytes-append n xs (y ∷ []) (omega arith) in
    let last : slice_index (xs ++ y ∷ []) n ≡ y = get_or_at xs y [] 0 n len in
    let e : n + 1 ≡ suc n = omega arith in
    rw e (rw (front, last) refl)

-- the byte behind the last is a zero
pub first_bytes-past : (n : ℕ) (xs : List ℕ) → length xs ≡ n → first_bytes (n + 1) xs ≡ first_bytes n xs * 256
unfolding first_bytes
first_bytes-past n xs len =
    let last : slice_index xs n ≡ 0 = get_or_past xs n 0 (omega arith) in
    let e : n + 1 ≡ suc n = omega arith in
    rw e (rw last (omega arith))

-- the next byte of a number, by what is left of it
byte_at-more : (k n : ℕ) → byte_at (suc k) n ≡ byte_at k (n / 256)
byte_at-more zero n = let one : 256 ^ 1 ≡ 256 = omega arith in rw one refl
byte_at-more (suc k) n =
    let power : 256 ^ suc (suc k) ≡ 256 * 256 ^ suc k = omega (arith, pow-suc 256 (suc k)) in
    ap (λ (p : ℕ). n / p % 256) power ∙ ap (λ (m : ℕ). m % 256) (sym (div-div-eq-div-mul n 256 (256 ^ suc k)))

-- the bytes of a number, the lowest apart
pub bytes-push : (n x : ℕ) → bytes_high_first (suc n) x ≡ bytes_high_first n (x / 256) ++ (x % 256) ∷ []
bytes-push zero x = refl
bytes-push (suc n) x =
    ap (λ (b : ℕ). b ∷ bytes_high_first (suc n) x) (byte_at-more n x) ∙ ap (λ (bs : List ℕ). byte_at n (x / 256) ∷ bs) (bytes-push n x)

-- the number that the bytes of a number spell
pub first_bytes-bytes : (n x : ℕ) → x < 256 ^ n → first_bytes n (bytes_high_first n x) ≡ x
unfolding first_bytes
first_bytes-bytes zero x h = omega arith
first_bytes-bytes (suc n) x h =
    let power : 256 ^ suc n ≡ 256 ^ n * 256 = pow-suc 256 n in
    let small : x / 256 < 256 ^ n = div_below x 256 (256 ^ n) (omega arith) (omega arith) in
    let spelled = first_bytes-bytes n (x / 256) small in
    let pushed = first_bytes-push n (bytes_high_first n (x / 256)) (x % 256) (length-bytes_high_first n (x / 256)) in
    let e : n + 1 ≡ suc n = omega arith in
    ap (first_bytes (suc n)) (bytes-push n x) ∙ ap (λ (m : ℕ). first_bytes m (bytes_high_first n (x / 256) ++ (x % 256) ∷ [])) (sym e) ∙ pushed ∙ omega (arith, spelled)

byte_of_front : (n : ℕ) (xs : List ℕ) (k : ℕ) → length (take n xs) ≡ n → ((j : ℕ) → slice_index xs j < 256) → slice_index (take n xs) k < 256
byte_of_front n xs k len are = elim (cases_lt k n) [
  | inl h ↦ let same : slice_index (take n xs) k ≡ slice_index xs k = get_or-take n xs k 0 h in rw same (are k)
  | inr h ↦ let none : slice_index (take n xs) k ≡ 0 = get_or_past (take n xs) k 0 (omega arith) in omega arith
]

-- bytes are those of the number that they spell
pub bytes-first_bytes : (n : ℕ) (xs : List ℕ) → length xs ≡ n → ((k : ℕ) → slice_index xs k < 256) → bytes_high_first n (first_bytes n xs) ≡ xs
unfolding first_bytes
bytes-first_bytes zero [] len are = refl
bytes-first_bytes zero (x ∷ xs) len are = absurd (omega arith)
bytes-first_bytes (suc n) xs len are =
    let split : take (suc n) xs ≡ take n xs ++ slice_index xs n ∷ [] = take-suc xs n 0 (omega arith) in
    let all : take (suc n) xs ≡ xs = take_all (suc n) xs (omega arith) in
    let front_len : length (take n xs) ≡ n = length-take-le n xs (omega arith) in
    let front_are : (k : ℕ) → slice_index (take n xs) k < 256 = λ k. byte_of_front n xs k front_len are in
    let front = bytes-first_bytes n (take n xs) front_len front_are in
    let same : first_bytes n (take n xs) ≡ first_bytes n xs = first_bytes-same n (take n xs) xs (λ k h. get_or-take n xs k 0 h) in
    let last : slice_index xs n < 256 = are n in
    let high : (first_bytes n xs * 256 + slice_index xs n) / 256 ≡ first_bytes n xs = omega arith in
    let low : (first_bytes n xs * 256 + slice_index xs n) % 256 ≡ slice_index xs n = omega arith in
    bytes-push n (first_bytes n xs * 256 + slice_index xs n) ∙ rw (high, low, ← same, front) (sym split ∙ all)

-- a byte put in place of another changes the number by what the place is worth
pub first_bytes-set : (n : ℕ) (xs : List ℕ) (k y : ℕ) → k < n → k < length xs → first_bytes n (slice_set xs k y) + slice_index xs k * 256 ^ (n - 1 - k) ≡ first_bytes n xs + y * 256 ^ (n - 1 - k)
unfolding first_bytes
first_bytes-set zero xs k y h len = absurd (omega arith)
first_bytes-set (suc n) xs k y h len = elim (cases_lt k n) [
  | inl lower ↦
      let rest = first_bytes-set n xs k y lower len in
      let ne : (n ≡ k) → ⊥ = λ e. omega arith in
      let last : slice_index (slice_set xs k y) n ≡ slice_index xs n = get_or-set_other xs k n y 0 ne in
      let more : suc n - 1 - k ≡ suc (n - 1 - k) = omega arith in
      let power : 256 ^ suc (n - 1 - k) ≡ 256 ^ (n - 1 - k) * 256 = pow-suc 256 (n - 1 - k) in
      rw (last, more, power) (omega (arith, rest))
  | inr upper ↦
      let e : k ≡ n = omega arith in
      let front : first_bytes n (slice_set xs k y) ≡ first_bytes n xs = first_bytes-same n (slice_set xs k y) xs (λ j below. get_or-set_other xs k j y 0 (λ (s : j ≡ k). omega arith)) in
      let last : slice_index (slice_set xs k y) k ≡ y = get_or-set_same xs k y 0 len in
      let none : suc n - 1 - k ≡ 0 = omega arith in
      rw (none, front, ← e, last) (omega arith)
]

-- How large numbers are: those inside their bits, sums, differences, products and shifts of these.
use Rattle.std.proofs.Common.{◌≡◌, ℕ, zero, suc, ◌+◌, ◌-◌, ◌*◌, ◌^◌, ◌<◌, ◌≤◌, ℤ, pos, negsuc, neg_ℤ, ◌+ℤ◌, ◌-ℤ◌, ◌≤ℤ◌, true, List, [], ◌∷◌, refl, arith}
use Rattle.std.specs.Prelude.{unsigned_abs}
use Rattle.std.specs.Int.{int_shr}
use Rattle.std.proofs.lemmas.Int.{ints}
use Rattle.std.proofs.Math.Nat.{div-le_of_le-mul, div-lt_iff_lt-mul, mul_comm}
use Rattle.std.proofs.lemmas.Nat.{pow_pos}
use Rattle.std.proofs.lemmas.Bool.{ltb-true, lt-ltb, and_parts, and_from}
use Rattle.flac_predict.specs.Samples.{is_inside, all_inside, sample_at, IsInside, AreInside}

-- the test of one number, both ways
pub inside_told : (bits : ℕ) (x : ℤ) → is_inside bits x ≡ true → IsInside bits x
unfolding is_inside
inside_told bits (pos n) e =
    let h : n < 2 ^ (bits - 1) = ltb-true n (2 ^ (bits - 1)) e in record { low = omega (arith, ints); high = omega (arith, ints) }
inside_told bits (negsuc n) e =
    let h : n < 2 ^ (bits - 1) = ltb-true n (2 ^ (bits - 1)) e in record { low = omega (arith, ints); high = omega (arith, ints) }

pub inside_tells : (bits : ℕ) (x : ℤ) → IsInside bits x → is_inside bits x ≡ true
unfolding is_inside
inside_tells bits (pos n) h =
    let l : n < 2 ^ (bits - 1) = omega (arith, ints, h.high) in lt-ltb n (2 ^ (bits - 1)) l
inside_tells bits (negsuc n) h =
    let l : n < 2 ^ (bits - 1) = omega (arith, ints, h.low) in lt-ltb n (2 ^ (bits - 1)) l

-- 0 is inside any bits
pub nothing_is_inside : (bits : ℕ) → 0 < 2 ^ (bits - 1) → IsInside bits (pos 0)
nothing_is_inside bits h = record { low = omega (arith, ints); high = omega (arith, ints) }

-- the test of a list tells of each place
pub all_told : (bits : ℕ) (xs : List ℤ) → 0 < 2 ^ (bits - 1) → all_inside bits xs ≡ true → (place : ℕ) → IsInside bits (sample_at xs place)
unfolding all_inside
all_told bits [] h e place = nothing_is_inside bits h
all_told bits (x ∷ more) h e zero = inside_told bits x (and_parts (is_inside bits x) (all_inside bits more) e).0
all_told bits (x ∷ more) h e (suc place) =
    all_told bits more h (and_parts (is_inside bits x) (all_inside bits more) e).1 place

pub are_told : (bits : ℕ) (xs : List ℤ) → 0 < 2 ^ (bits - 1) → all_inside bits xs ≡ true → AreInside bits xs
are_told bits xs h e = record { each = all_told bits xs h e }

pub are_tells : (bits : ℕ) (xs : List ℤ) → ((place : ℕ) → IsInside bits (sample_at xs place)) → all_inside bits xs ≡ true
unfolding all_inside
are_tells bits [] h = refl
are_tells bits (x ∷ more) h =
    and_from (is_inside bits x) (all_inside bits more) (inside_tells bits x (h 0)) (are_tells bits more (λ place. h (suc place)))

-- more bits hold as much
pub wider_one : (bits more : ℕ) (x : ℤ) → 2 ^ (bits - 1) ≤ 2 ^ (more - 1) → IsInside bits x → IsInside more x
wider_one bits more x h i = record { low = omega (arith, ints, i.low); high = omega (arith, ints, i.high) }

pub wider : (bits more : ℕ) (xs : List ℤ) → 2 ^ (bits - 1) ≤ 2 ^ (more - 1) → AreInside bits xs → AreInside more xs
wider bits more xs h are = record { each = λ place. wider_one bits more (sample_at xs place) h (are.each place) }

-- a difference has one bit more
pub difference_inside : (bits more : ℕ) (x y : ℤ) → 2 ^ (more - 1) ≡ 2 ^ (bits - 1) + 2 ^ (bits - 1) → IsInside bits x → IsInside bits y → IsInside more (y -ℤ x)
difference_inside bits more x y e i j =
    record { low = omega (arith, ints, i.low, i.high, j.low, j.high); high = omega (arith, ints, i.low, i.high, j.low, j.high) }

-- absolute values
pub abs_from : (z : ℤ) (m : ℕ) → neg_ℤ (pos m) ≤ℤ z → z ≤ℤ pos m → unsigned_abs z ≤ m
abs_from (pos n) m l h = omega (arith, ints, l, h)
abs_from (negsuc n) m l h = omega (arith, ints, l, h)

pub abs_low : (z : ℤ) → neg_ℤ (pos (unsigned_abs z)) ≤ℤ z
abs_low (pos n) = omega (arith, ints)
abs_low (negsuc n) = omega (arith, ints)

pub abs_high : (z : ℤ) → z ≤ℤ pos (unsigned_abs z)
abs_high (pos n) = omega (arith, ints)
abs_high (negsuc n) = omega (arith, ints)

pub abs_sum : (x y : ℤ) → unsigned_abs (x +ℤ y) ≤ unsigned_abs x + unsigned_abs y
abs_sum x y =
    abs_from (x +ℤ y) (unsigned_abs x + unsigned_abs y) (omega (arith, ints, abs_low x, abs_low y)) (omega (arith, ints, abs_high x, abs_high y))

pub abs_inside : (bits : ℕ) (x : ℤ) → IsInside bits x → unsigned_abs x ≤ 2 ^ (bits - 1)
abs_inside bits x i = abs_from x (2 ^ (bits - 1)) i.low (omega (arith, ints, i.high))

pub inside_from_abs : (bits : ℕ) (x : ℤ) → unsigned_abs x < 2 ^ (bits - 1) → IsInside bits x
inside_from_abs bits x h =
    record { low = omega (arith, ints, abs_low x, h); high = omega (arith, ints, abs_high x, h) }

-- a shift to the right, rounding down
pub abs_shifted : (x : ℤ) (k q : ℕ) → unsigned_abs x ≤ q * 2 ^ k → unsigned_abs (int_shr x k) ≤ q
abs_shifted (pos n) k q h = div-le_of_le-mul (2 ^ k) (rw (mul_comm (2 ^ k) q) h)
abs_shifted (negsuc n) k q h =
    let p : 0 < 2 ^ k = pow_pos k in (div-lt_iff_lt-mul p).1 h

-- Samples that are read are inside their bits.
use Rattle.std.proofs.Common.{◌≡◌, ℕ, zero, suc, ◌-◌, ◌+◌, ◌*◌, ◌%◌, ◌^◌, ◌≤◌, ◌<◌, ◌≢◌, Bool, true, false, ◌&&◌, IsTrue, nat_le, ℤ, pos, negsuc, ◌*ℤ◌, List, [], ◌∷◌, length, replicate, get_or, get_or-set_other, get_or-set_same, below_more, refl, sym, ap, ◌∙◌, arith, rules}
use Rattle.std.proofs.Math.ListN.{set}
use Rattle.std.proofs.lemmas.Bool.{leb-true, leb-false, ltb-true}
use Rattle.std.proofs.lemmas.List.{get_or_past}
use Rattle.std.proofs.lemmas.Nat.{pow_pos, pow-add, one_shl}
use Rattle.std.proofs.Math.Pow.{pow_mono}
use Rattle.std.specs.Int.RustNames.{FitsSigned, unsigned_abs}
use Rattle.std.proofs.lemmas.Int.{ints, to_z-of_z, to_z_pos, fits_signed_mul, fits_signed_from_abs}
use mir.Val.{SFits, to_z, of_z}
use mir.Syntax.{w32}
use Rattle.flac_predict.specs.Samples.{is_inside, all_inside, IsInside, AreInside}

pub zero_inside : (count : ℕ) → IsInside count (pos 0)
zero_inside count =
    let some : 1 ≤ 2 ^ (count - 1) = pow_pos (count - 1) in
    record { low = omega (arith, ints); high = omega (arith, ints) }

-- those of the first places are
pub stored_inside : (count place : ℕ) (out : List ℤ) (x : ℤ) → SFits w32 x → place < length out → IsInside count x
    → ((k : ℕ) → k < place → IsInside count (get_or out k (pos 0))) → (k : ℕ) → k < place + 1 → IsInside count (get_or (set out place (to_z w32 (of_z w32 x))) k (pos 0))
stored_inside count place out x fits lt here inside =
    below_more _ _
    (λ k h. let other : k ≢ place = omega arith in rw get_or-set_other (inside k h))
    (rw get_or-set_same (rw (to_z-of_z w32 x fits) here))

inside_by : (count i k : ℕ) (out : List ℤ) (b : Bool) → nat_le i k ≡ b → length out ≤ i → ((j : ℕ) → j < i → IsInside count (get_or out j (pos 0))) → IsInside count (get_or out k (pos 0))
inside_by count i k out true t all inside =
    let le : i ≤ k = leb-true i k t in
    rw (get_or_past out k (pos 0) (omega arith)) (zero_inside count)
inside_by count i k out false t all inside = inside k (leb-false i k t)

pub are_inside : (count i : ℕ) (out : List ℤ) → length out ≤ i → ((j : ℕ) → j < i → IsInside count (get_or out j (pos 0))) → AreInside count out
are_inside count i out all inside = record { each = λ k. inside_by count i k out (nat_le i k) refl all inside }

-- each of the same sample is
replicated : (count n k : ℕ) (x : ℤ) → IsInside count x → IsInside count (get_or (replicate n x) k (pos 0))
replicated count zero k x here = zero_inside count
replicated count (suc n) zero x here = here
replicated count (suc n) (suc k) x here = replicated count n k x here

pub replicate_inside : (count n : ℕ) (x : ℤ) → IsInside count x → AreInside count (replicate n x)
replicate_inside count n x here = record { each = λ k. replicated count n k x here }

-- the test says so
pub tested : (count : ℕ) (x : ℤ) → is_inside count x ≡ true → IsInside count x
unfolding is_inside
tested count (pos n) t = let lt : n < 2 ^ (count - 1) = ltb-true n (2 ^ (count - 1)) t in record { low = omega (arith, ints); high = omega (arith, ints) }
tested count (negsuc n) t = let lt : n < 2 ^ (count - 1) = ltb-true n (2 ^ (count - 1)) t in record { low = omega (arith, ints); high = omega (arith, ints) }

both_parts : (a b : Bool) → (a && b) ≡ true → (a ≡ true) × (b ≡ true)
both_parts true b e = (refl, e)
both_parts false b e = absurd (cc)

all_tested : (count k : ℕ) (xs : List ℤ) → all_inside count xs ≡ true → IsInside count (get_or xs k (pos 0))
unfolding all_inside
all_tested count k [] t = zero_inside count
all_tested count zero (x ∷ xs) t = tested count x (both_parts (is_inside count x) (all_inside count xs) t).0
all_tested count (suc k) (x ∷ xs) t = all_tested count k xs (both_parts (is_inside count x) (all_inside count xs) t).1

pub tested_inside : (count : ℕ) (xs : List ℤ) → all_inside count xs ≡ true → AreInside count xs
tested_inside count xs t = record { each = λ k. all_tested count k xs t }

-- samples that were restored and tested are
pub restored_inside : (b : Bool) (depth : ℕ) (xs out : List ℤ) → b ≡ all_inside depth xs → (IsTrue b → out ≡ xs) → b ≡ true → AreInside depth out
restored_inside b depth xs out e f t = let is : out ≡ xs = f (search (rules, t)) in rw is (tested_inside depth xs (sym e ∙ t))

-- ---- wasted bits

abs_small : (depth : ℕ) (x : ℤ) → IsInside depth x → unsigned_abs x ≤ 2 ^ (depth - 1)
abs_small depth (pos n) h = let low = h.low in let high = h.high in omega (arith, ints)
abs_small depth (negsuc n) h = let low = h.low in let high = h.high in omega (arith, ints)

product_fits : (x : ℤ) (wasted depth : ℕ) → 1 ≤ depth → depth + wasted ≤ 25 → IsInside depth x → FitsSigned w32 (x *ℤ pos (2 ^ wasted))
product_fits x wasted depth some few h =
    let e : 2 ^ (depth - 1 + wasted) ≡ 2 ^ (depth - 1) * 2 ^ wasted = pow-add 2 (depth - 1) wasted in
    let most : 2 ^ (depth - 1 + wasted) ≤ 2 ^ 24 = pow_mono {i = depth - 1 + wasted} {j = 24} (omega arith) in
    let low : 2 ^ 24 < 2 ^ 31 = omega arith in
    fits_signed_mul w32 x (pos (2 ^ wasted)) (2 ^ (depth - 1)) (2 ^ wasted) (abs_small depth x h) (omega arith) (omega arith)

record IsFactor (wasted : ℕ) : Type 0 where
  is : to_z w32 (1 * 2 ^ wasted % 2 ^ 32) ≡ pos (2 ^ wasted)

factor : (wasted : ℕ) → wasted ≤ 25 → IsFactor wasted
factor wasted few =
    let mask : 1 * 2 ^ wasted % 2 ^ 32 ≡ 2 ^ wasted = one_shl wasted 32 (omega arith) in
    let most : 2 ^ wasted ≤ 2 ^ 25 = pow_mono {i = wasted} {j = 25} few in
    record { is = ap (to_z w32) mask ∙ to_z_pos w32 (2 ^ wasted) (omega arith) }

pub scaled_fits : (x : ℤ) (wasted depth : ℕ) → 1 ≤ depth → depth + wasted ≤ 25 → IsInside depth x → SFits w32 x → FitsSigned w32 (to_z w32 (of_z w32 x) *ℤ to_z w32 (1 * 2 ^ wasted % 2 ^ 32))
scaled_fits x wasted depth some few h fits =
    let one : to_z w32 (of_z w32 x) ≡ x = to_z-of_z w32 x fits in
    let other = (factor wasted (omega arith)).is in
    rw (one, other) (product_fits x wasted depth some few h)

pub scaled_is : (x : ℤ) (wasted depth : ℕ) → 1 ≤ depth → depth + wasted ≤ 25 → IsInside depth x → SFits w32 x
    → to_z w32 (of_z w32 (to_z w32 (of_z w32 x) *ℤ to_z w32 (1 * 2 ^ wasted % 2 ^ 32))) ≡ x *ℤ pos (2 ^ wasted)
scaled_is x wasted depth some few h fits =
    let one : to_z w32 (of_z w32 x) ≡ x = to_z-of_z w32 x fits in
    let other = (factor wasted (omega arith)).is in
    rw (one, other) (to_z-of_z w32 (x *ℤ pos (2 ^ wasted)) (product_fits x wasted depth some few h))

-- ---- samples in 32 bits

pub inside_of : (bits : ℕ) (x y : ℤ) (b c : Bool) → b ≡ is_inside bits y → b ≡ c → y ≡ x → is_inside bits x ≡ c
inside_of bits x y b c e t is = ap (is_inside bits) (sym is) ∙ sym e ∙ t

pub fits_32 : (bits : ℕ) (x : ℤ) → bits ≤ 24 → is_inside bits x ≡ true → FitsSigned w32 x
fits_32 bits x few t =
    let h = tested bits x t in
    let most : 2 ^ (bits - 1) ≤ 2 ^ 23 = pow_mono {i = bits - 1} {j = 23} (omega arith) in
    fits_signed_from_abs w32 x (omega (arith, abs_small bits x h))

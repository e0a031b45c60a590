-- Which number a symbol's choices are: its exponent, its sign, and where two numbers part.
use Rattle.std.proofs.Common.{◌≡◌, ℕ, zero, suc, min, ◌+◌, ◌*◌, ◌^◌, ◌<◌, ◌≤◌, [], ◌∷◌, Bool, true, false, refl, sym, arith, inl, inr}
use Rattle.std.specs.Prelude.{ℤ, pos, negsuc, unsigned_abs}
use Rattle.std.proofs.lemmas.Int.{ints}
use Rattle.std.specs.Int.{is_negative}
use Rattle.std.proofs.Math.Nat.{pow-suc, min-eq_left, min-eq_right}
use Rattle.std.proofs.Math.Pow.{pow_mono}
use Rattle.std.proofs.lemmas.Bool.{cases_lt, le-leb, lt-leb, ne_eqb, eq-eqb}
use Rattle.range_coder.specs.Symbol.{choice, exponent_slot, exponent_up_to, exponent_of, number_choices, symbol_choices, IsCodable}

-- the search for the exponent finds it
pub exponent_up_to-is : (most magnitude e : ℕ) → e ≤ most → 2 ^ e ≤ magnitude → magnitude < 2 * 2 ^ e → exponent_up_to most magnitude ≡ e
unfolding exponent_up_to
exponent_up_to-is zero magnitude e within low high = omega arith
exponent_up_to-is (suc most) magnitude e within low high = elim (cases_lt e (suc most)) [
  | inl below ↦
      let power : 2 ^ suc e ≡ 2 ^ e * 2 = pow-suc 2 e in
      let more : 2 ^ suc e ≤ 2 ^ suc most = pow_mono {i = suc e} {j = suc most} (omega arith) in
      rw (lt-leb (2 ^ suc most) magnitude (omega arith)) (exponent_up_to-is most magnitude e (omega arith) low high)
  | inr above ↦
      let is : suc most ≡ e = omega arith in
      let low' : 2 ^ suc most ≤ magnitude = rw is low in
      rw (le-leb (2 ^ suc most) magnitude low') is
]

pub exponent_is : (magnitude e : ℕ) → 2 ^ e ≤ magnitude → magnitude < 2 * 2 ^ e → e < 32 → e ≡ exponent_of magnitude
exponent_is magnitude e low high within = sym (exponent_up_to-is 31 magnitude e (omega arith) low high)

-- the symbol of a number that isn't 0, and of 0
pub symbol_of_number : (value : ℤ) (signed negative : Bool) (magnitude : ℕ) → unsigned_abs value ≡ magnitude → is_negative value ≡ negative → 0 < magnitude → symbol_choices value signed ≡ number_choices (exponent_of magnitude) magnitude negative signed
unfolding symbol_choices
symbol_of_number value signed negative magnitude is sign some =
    let ne : (unsigned_abs value ≡ 0) → ⊥ = λ none. omega arith in
    rw (ne_eqb (unsigned_abs value) 0 ne) (rw (is, sign) refl)

pub symbol_of_zero : (value : ℤ) (signed : Bool) → unsigned_abs value ≡ 0 → symbol_choices value signed ≡ choice 0 true ∷ []
unfolding symbol_choices
symbol_of_zero value signed none = rw (eq-eqb (unsigned_abs value) 0 none) refl

-- a number that is read can be coded
pub codable : (value : ℤ) (signed negative : Bool) (magnitude : ℕ) → unsigned_abs value ≡ magnitude → is_negative value ≡ negative → magnitude < 2 ^ 31 → (signed ≡ false → negative ≡ false) → IsCodable value signed
codable value true negative magnitude is sign high unsigned = omega arith
codable (pos n) false negative magnitude is sign high unsigned = (omega (arith, ints), omega arith)
codable (negsuc n) false negative magnitude is sign high unsigned =
    let no : negative ≡ false = unsigned refl in
    let yes' : true ≡ negative = sign in
    absurd (cc)

-- a magnitude of an exponent of at most 30
pub magnitude_fits : (magnitude e : ℕ) → magnitude < 2 * 2 ^ e → e ≤ 30 → magnitude < 2 ^ 31
magnitude_fits magnitude e high within =
    let small : 2 ^ e ≤ 2 ^ 30 = pow_mono {i = e} {j = 30} within in
    omega arith

-- the exponent's bounds
pub exponent_bounds : (most magnitude : ℕ) → 0 < magnitude → magnitude < 2 * 2 ^ most → (2 ^ exponent_up_to most magnitude ≤ magnitude) × (magnitude < 2 * 2 ^ exponent_up_to most magnitude)
unfolding exponent_up_to
exponent_bounds zero magnitude some high = (omega arith, omega arith)
exponent_bounds (suc most) magnitude some high = elim (cases_lt magnitude (2 ^ suc most)) [
  | inl below ↦
      let power : 2 ^ suc most ≡ 2 ^ most * 2 = pow-suc 2 most in
      rw (lt-leb (2 ^ suc most) magnitude below) (exponent_bounds most magnitude some (omega arith))
  | inr above ↦ rw (le-leb (2 ^ suc most) magnitude above) (above, high)
]

pub exponent_within : (e magnitude : ℕ) → 2 ^ e ≤ magnitude → magnitude < 2 ^ 31 → e < 31
exponent_within e magnitude low high = elim (cases_lt e 31) [
  | inl below ↦ below
  | inr above ↦ (let more : 2 ^ 31 ≤ 2 ^ e = pow_mono {i = 31} {j = e} above in absurd (omega arith))
]

-- signs
pub pos_sign : (n : ℕ) → is_negative (pos n) ≡ false
pos_sign n = grind (arith, ints)

pub neg_sign : (n : ℕ) → is_negative (negsuc n) ≡ true
neg_sign n = refl

-- the slots of the ones: below 10 each has its own, and from 10 on they share the last
pub few_slot : (k : ℕ) → k < 10 → 1 + k ≡ exponent_slot k
few_slot k below = let least : min k 9 ≡ k = min-eq_left (omega arith) in rw least refl

pub many_slot : (k : ℕ) → 10 ≤ k → 10 ≡ exponent_slot k
many_slot k above = let least : min k 9 ≡ 9 = min-eq_right (omega arith) in rw least refl

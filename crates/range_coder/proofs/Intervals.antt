-- Intervals: what a decision leaves of one, and which of the two the bytes name.
use Rattle.std.proofs.Common.{◌≡◌, ℕ, suc, ◌+◌, ◌-◌, ◌*◌, ◌/◌, ◌^◌, ◌<◌, ◌≤◌, List, Bool, true, false, slice_index, refl, sym, subst, arith, inl, inr}
use Rattle.std.proofs.Math.Nat.{pow-suc, mul-le-mul_left}
use Rattle.std.proofs.lemmas.Bool.{lt-ltb, le-ltb, cases_lt}
use Rattle.std.proofs.lemmas.Nat.{le-div, div_below}
use Rattle.range_coder.specs.Interval.{Interval, whole, part_of_one, part, renewed, narrow, first_bytes, Inside}
use Rattle.range_coder.specs.Table.{IsState}
use Rattle.cook_bits.specs.Bits.{AreBytes}

-- neither bit has nothing of a range
pub record HasTwoParts (range ones : ℕ) : Type 0 where
  pub some : 1 ≤ ones
  pub less : ones < range

pub two_parts : (range state : ℕ) → 256 ≤ range → IsState state → HasTwoParts range (part_of_one range state)
two_parts range state wide s =
    let low : 1 ≤ state = s.low in
    let high : state ≤ 255 = s.high in
    let least : range * 1 ≤ range * state = mul-le-mul_left range low in
    let most : range * state ≤ range * 255 = mul-le-mul_left range high in
    record {
      some = le-div 1 (range * state) 256 (omega arith) (omega arith);
      less = div_below (range * state) 256 range (omega arith) (omega arith);
    }

-- an interval after any decisions
pub record IsWide (i : Interval) : Type 0 where
  pub least : 256 ≤ i.range
  pub most : i.range ≤ 65280
  pub within : i.low + i.range ≤ 65280 * 256 ^ i.shifts

pub whole_wide : IsWide whole
unfolding whole
whole_wide = record { least = omega arith; most = omega arith; within = omega arith }

-- an interval before it is renewed
pub record IsSplit (i : Interval) : Type 0 where
  pub some : 1 ≤ i.range
  pub most : i.range ≤ 65280
  pub within : i.low + i.range ≤ 65280 * 256 ^ i.shifts

pub part_split : (i : Interval) (state : ℕ) (bit : Bool) → IsWide i → IsState state → IsSplit (part i state bit)
unfolding part
part_split i state true w s =
    let two = two_parts i.range state w.least s in
    let some : 1 ≤ part_of_one i.range state = two.some in
    let less : part_of_one i.range state < i.range = two.less in
    let most : i.range ≤ 65280 = w.most in
    let within : i.low + i.range ≤ 65280 * 256 ^ i.shifts = w.within in
    record { some = some; most = omega arith; within = omega arith }
part_split i state false w s =
    let two = two_parts i.range state w.least s in
    let some : 1 ≤ part_of_one i.range state = two.some in
    let less : part_of_one i.range state < i.range = two.less in
    let most : i.range ≤ 65280 = w.most in
    let within : i.low + i.range ≤ 65280 * 256 ^ i.shifts = w.within in
    record { some = omega arith; most = omega arith; within = omega arith }

-- the interval that a byte renews
abbrev pub with_byte : Interval → Interval
with_byte i = record { low = i.low * 256; range = i.range * 256; shifts = i.shifts + 1 }

pub renewed_small : (i : Interval) → i.range < 256 → renewed i ≡ with_byte i
unfolding renewed
renewed_small i h = rw (lt-ltb i.range 256 h) refl

pub renewed_wide : (i : Interval) → 256 ≤ i.range → renewed i ≡ i
unfolding renewed
renewed_wide i h = rw (le-ltb i.range 256 h) refl

-- whichever way it is renewed
pub renewed_by : (P : Interval → Type 0) (i : Interval) → (i.range < 256 → P (with_byte i)) → (256 ≤ i.range → P i) → P (renewed i)
renewed_by P i small wide = elim (cases_lt i.range 256) [
  | inl h ↦ subst P (sym (renewed_small i h)) (small h)
  | inr h ↦ subst P (sym (renewed_wide i h)) (wide h)
]

pub power_more : (n : ℕ) → 256 ^ (n + 1) ≡ 256 ^ n * 256
power_more n = let e : n + 1 ≡ suc n = omega arith in rw e (pow-suc 256 n)

pub renewed_is_wide : (i : Interval) → IsSplit i → IsWide (renewed i)
renewed_is_wide i s =
    let some : 1 ≤ i.range = s.some in
    let most : i.range ≤ 65280 = s.most in
    let within : i.low + i.range ≤ 65280 * 256 ^ i.shifts = s.within in
    let power = power_more i.shifts in
    renewed_by IsWide i (λ h. record { least = omega arith; most = omega arith; within = rw power (omega arith) }) (λ h. record { least = h; most = most; within = within })

pub narrow_wide : (i : Interval) (state : ℕ) (bit : Bool) → IsWide i → IsState state → IsWide (narrow i state bit)
unfolding narrow
narrow_wide i state bit w s = renewed_is_wide (part i state bit) (part_split i state bit w s)

-- one more byte of a number
pub first_more : (n : ℕ) (bytes : List ℕ) → first_bytes (n + 1 + 2) bytes ≡ first_bytes (n + 2) bytes * 256 + slice_index bytes (n + 2)
unfolding first_bytes
first_more n bytes = let e : n + 1 + 2 ≡ suc (n + 2) = omega arith in rw e refl

-- a byte more names a number in what it renews exactly where the bytes before it do
pub inside_renewed : (bytes : List ℕ) (i : Interval) → AreBytes bytes → Inside bytes i → Inside bytes (renewed i)
inside_renewed bytes i are inside =
    let byte : slice_index bytes (i.shifts + 2) < 256 = are (i.shifts + 2) in
    let more = first_more i.shifts bytes in
    let above : i.low ≤ first_bytes (i.shifts + 2) bytes = inside.above in
    let below : first_bytes (i.shifts + 2) bytes < i.low + i.range = inside.below in
    renewed_by (Inside bytes) i (λ h. record { above = rw more (omega arith); below = rw more (omega arith) }) (λ h. inside)

pub inside_with_byte : (bytes : List ℕ) (i : Interval) → AreBytes bytes → Inside bytes (with_byte i) → Inside bytes i
inside_with_byte bytes i are inside =
    let byte : slice_index bytes (i.shifts + 2) < 256 = are (i.shifts + 2) in
    let more = first_more i.shifts bytes in
    let above : i.low * 256 ≤ first_bytes (i.shifts + 1 + 2) bytes = inside.above in
    let below : first_bytes (i.shifts + 1 + 2) bytes < i.low * 256 + i.range * 256 = inside.below in
    record { above = omega arith; below = omega arith }

pub inside_before : (bytes : List ℕ) (i : Interval) → AreBytes bytes → Inside bytes (renewed i) → Inside bytes i
inside_before bytes i are =
    let P : Interval → Type 0 = λ j. Inside bytes j → Inside bytes i in
    renewed_by P i (λ h inside. inside_with_byte bytes i are inside) (λ h inside. inside)

-- the two parts have no number in common
inside_high : (bytes : List ℕ) (i : Interval) (state : ℕ) → Inside bytes (part i state true) → i.low + (i.range - part_of_one i.range state) ≤ first_bytes (i.shifts + 2) bytes
unfolding part
inside_high bytes i state inside = inside.above

inside_low : (bytes : List ℕ) (i : Interval) (state : ℕ) → Inside bytes (part i state false) → first_bytes (i.shifts + 2) bytes < i.low + (i.range - part_of_one i.range state)
unfolding part
inside_low bytes i state inside = inside.below

pub one_part : (bytes : List ℕ) (i : Interval) (state : ℕ) → Inside bytes (part i state true) → Inside bytes (part i state false) → ⊥
one_part bytes i state high low =
    let h = inside_high bytes i state high in
    let l = inside_low bytes i state low in
    omega arith

pub one_narrow : (bytes : List ℕ) (i : Interval) (state : ℕ) → AreBytes bytes → Inside bytes (narrow i state true) → Inside bytes (narrow i state false) → ⊥
unfolding narrow
one_narrow bytes i state are high low =
    one_part bytes i state (inside_before bytes (part i state true) are high) (inside_before bytes (part i state false) are low)

-- a number of a part is one of the whole
pub inside_part : (bytes : List ℕ) (i : Interval) (state : ℕ) (bit : Bool) → IsState state → Inside bytes (part i state bit) → Inside bytes i
unfolding part
inside_part bytes i state true s inside =
    let most : i.range * state ≤ i.range * 255 = mul-le-mul_left i.range s.high in
    let less : i.range * state / 256 ≤ i.range = omega arith in
    let above : i.low + (i.range - part_of_one i.range state) ≤ first_bytes (i.shifts + 2) bytes = inside.above in
    let below : first_bytes (i.shifts + 2) bytes < i.low + (i.range - part_of_one i.range state) + part_of_one i.range state = inside.below in
    record { above = omega arith; below = omega arith }
inside_part bytes i state false s inside =
    let above : i.low ≤ first_bytes (i.shifts + 2) bytes = inside.above in
    let below : first_bytes (i.shifts + 2) bytes < i.low + (i.range - part_of_one i.range state) = inside.below in
    record { above = omega arith; below = omega arith }

pub inside_narrow : (bytes : List ℕ) (i : Interval) (state : ℕ) (bit : Bool) → AreBytes bytes → IsState state → Inside bytes (narrow i state bit) → Inside bytes i
unfolding narrow
inside_narrow bytes i state bit are s inside =
    inside_part bytes i state bit s (inside_before bytes (part i state bit) are inside)

-- a number of the whole is one of a part
pub record InPart (bytes : List ℕ) (i : Interval) (state : ℕ) : Type 0 where
  pub bit : Bool
  pub inside : Inside bytes (narrow i state bit)

in_low : (bytes : List ℕ) (i : Interval) (state : ℕ) → Inside bytes i → first_bytes (i.shifts + 2) bytes < i.low + (i.range - part_of_one i.range state) → Inside bytes (part i state false)
unfolding part
in_low bytes i state inside h = record { above = inside.above; below = h }

in_high : (bytes : List ℕ) (i : Interval) (state : ℕ) → IsWide i → IsState state → Inside bytes i → i.low + (i.range - part_of_one i.range state) ≤ first_bytes (i.shifts + 2) bytes → Inside bytes (part i state true)
unfolding part
in_high bytes i state w s inside h =
    let two = two_parts i.range state w.least s in
    let less : part_of_one i.range state < i.range = two.less in
    let below : first_bytes (i.shifts + 2) bytes < i.low + i.range = inside.below in
    record { above = h; below = omega arith }

pub in_part : (bytes : List ℕ) (i : Interval) (state : ℕ) → AreBytes bytes → IsWide i → IsState state → Inside bytes i → InPart bytes i state
unfolding narrow
in_part bytes i state are w s inside =
    elim (cases_lt (first_bytes (i.shifts + 2) bytes) (i.low + (i.range - part_of_one i.range state))) [
      | inl h ↦ record { bit = false; inside = inside_renewed bytes (part i state false) are (in_low bytes i state inside h) }
      | inr h ↦ record { bit = true; inside = inside_renewed bytes (part i state true) are (in_high bytes i state w s inside h) }
    ]

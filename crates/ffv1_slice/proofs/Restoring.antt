-- The difference of a sample restores it.
use Rattle.std.proofs.Common.{◌≡◌, ◌⊎◌, ℕ, ◌+◌, ◌-◌, ◌*◌, ◌%◌, ◌<◌, ◌≤◌, Bool, true, false, refl, sym, ap, ◌∙◌, arith, inl, inr}
use Rattle.std.proofs.lemmas.Bool.{cases_eq, cases_lt}
use Rattle.std.proofs.lemmas.Int.{ints, int_rem_euclid_is}
use Rattle.std.specs.Int.{int_rem_euclid}
use Rattle.std.specs.Prelude.{ℤ, pos, ◌+ℤ◌, ◌-ℤ◌, neg_ℤ, unsigned_abs}
use Rattle.ffv1_slice.specs.Below.{IsHalf}
use Rattle.ffv1_slice.specs.Plane.{folded, difference, restored}
use Rattle.ffv1_slice.proofs.Folding.{mod_is, folded_low, folded_high}

-- what is left of a folded difference, and of its negative
rem_folded : (half apart r q : ℕ) → 0 < half → apart ≡ q * (2 * half) + r → r < 2 * half → unsigned_abs (int_rem_euclid (folded half apart) (pos (2 * half))) ≡ r
rem_folded half apart r q some e below = elim (cases_lt r half) as (λ _. unsigned_abs (int_rem_euclid (folded half apart) (pos (2 * half))) ≡ r) [
  | inl low ↦
      let v : folded half apart ≡ pos r = folded_low half apart r q e low in
      let sum : folded half apart +ℤ pos (1 * (2 * half)) ≡ pos (r + 2 * half) = ap (λ (z : ℤ). z +ℤ pos (1 * (2 * half))) v ∙ (omega (arith, ints)) in
      let m : (r + 2 * half) % (2 * half) ≡ r = mod_is (r + 2 * half) (2 * half) 1 r (omega arith) below in
      ap unsigned_abs (int_rem_euclid_is (folded half apart) (pos (2 * half)) (2 * half) 1 (r + 2 * half) (omega arith) refl sum) ∙ m
  | inr high ↦
      let v : folded half apart ≡ pos r -ℤ pos (2 * half) = folded_high half apart r q e high below in
      let sum : folded half apart +ℤ pos (1 * (2 * half)) ≡ pos r = ap (λ (z : ℤ). z +ℤ pos (1 * (2 * half))) v ∙ (omega (arith, ints)) in
      let m : r % (2 * half) ≡ r = mod_is r (2 * half) 0 r (omega arith) below in
      ap unsigned_abs (int_rem_euclid_is (folded half apart) (pos (2 * half)) (2 * half) 1 r (omega arith) refl sum) ∙ m
]

rem_turned : (half apart r q t : ℕ) → 0 < half → apart ≡ q * (2 * half) + r → r < 2 * half → t < 2 * half → (r + t ≡ 0) ⊎ (r + t ≡ 2 * half) → unsigned_abs (int_rem_euclid (neg_ℤ (folded half apart)) (pos (2 * half))) ≡ t
rem_turned half apart r q t some e below small sums = elim (cases_lt r half) as (λ _. unsigned_abs (int_rem_euclid (neg_ℤ (folded half apart)) (pos (2 * half))) ≡ t) [
  | inl low ↦
      let v : folded half apart ≡ pos r = folded_low half apart r q e low in
      let sum : neg_ℤ (folded half apart) +ℤ pos (1 * (2 * half)) ≡ pos (2 * half - r) = ap (λ (z : ℤ). neg_ℤ z +ℤ pos (1 * (2 * half))) v ∙ (omega (arith, ints)) in
      let m : (2 * half - r) % (2 * half) ≡ t = elim sums as (λ _. (2 * half - r) % (2 * half) ≡ t) [
        | inl none ↦ mod_is (2 * half - r) (2 * half) 1 t (omega arith) small
        | inr whole ↦ mod_is (2 * half - r) (2 * half) 0 t (omega arith) small
      ] in
      ap unsigned_abs (int_rem_euclid_is (neg_ℤ (folded half apart)) (pos (2 * half)) (2 * half) 1 (2 * half - r) (omega arith) refl sum) ∙ m
  | inr high ↦
      let v : folded half apart ≡ pos r -ℤ pos (2 * half) = folded_high half apart r q e high below in
      let sum : neg_ℤ (folded half apart) +ℤ pos (1 * (2 * half)) ≡ pos (4 * half - r) = ap (λ (z : ℤ). neg_ℤ z +ℤ pos (1 * (2 * half))) v ∙ (omega (arith, ints)) in
      let m : (4 * half - r) % (2 * half) ≡ t = elim sums as (λ _. (4 * half - r) % (2 * half) ≡ t) [
        | inl none ↦ absurd (omega arith)
        | inr whole ↦ mod_is (4 * half - r) (2 * half) 1 t (omega arith) small
      ] in
      ap unsigned_abs (int_rem_euclid_is (neg_ℤ (folded half apart)) (pos (2 * half)) (2 * half) 1 (4 * half - r) (omega arith) refl sum) ∙ m
]

restored_plain : (half p s : ℕ) → 0 < half → p < 2 * half → s < 2 * half → (p + unsigned_abs (int_rem_euclid (folded half (s + 2 * half - p)) (pos (2 * half)))) % (2 * half) ≡ s
restored_plain half p s some bp bs = elim (cases_lt s p) as (λ _. (p + unsigned_abs (int_rem_euclid (folded half (s + 2 * half - p)) (pos (2 * half)))) % (2 * half) ≡ s) [
  | inl below ↦
      let r = rem_folded half (s + 2 * half - p) (s + 2 * half - p) 0 some (omega arith) (omega arith) in
      ap (λ (n : ℕ). (p + n) % (2 * half)) r ∙ mod_is (p + (s + 2 * half - p)) (2 * half) 1 s (omega arith) bs
  | inr above ↦
      let r = rem_folded half (s + 2 * half - p) (s - p) 1 some (omega arith) (omega arith) in
      ap (λ (n : ℕ). (p + n) % (2 * half)) r ∙ mod_is (p + (s - p)) (2 * half) 0 s (omega arith) bs
]

restored_negative : (half p s : ℕ) → 0 < half → p < 2 * half → s < 2 * half → (p + unsigned_abs (int_rem_euclid (neg_ℤ (folded half (p + 2 * half - s))) (pos (2 * half)))) % (2 * half) ≡ s
restored_negative half p s some bp bs = elim (cases_lt p s) as (λ _. (p + unsigned_abs (int_rem_euclid (neg_ℤ (folded half (p + 2 * half - s))) (pos (2 * half)))) % (2 * half) ≡ s) [
  | inl below ↦
      let sum : (p + 2 * half - s) + (s - p) ≡ 2 * half = omega arith in
      let r = rem_turned half (p + 2 * half - s) (p + 2 * half - s) 0 (s - p) some (omega arith) (omega arith) (omega arith) (inr sum) in
      ap (λ (n : ℕ). (p + n) % (2 * half)) r ∙ mod_is (p + (s - p)) (2 * half) 0 s (omega arith) bs
  | inr above ↦ elim (cases_eq p s) as (λ _. (p + unsigned_abs (int_rem_euclid (neg_ℤ (folded half (p + 2 * half - s))) (pos (2 * half)))) % (2 * half) ≡ s) [
    | inl same ↦
        let sum : (p - s) + 0 ≡ 0 = omega arith in
        let r = rem_turned half (p + 2 * half - s) (p - s) 1 0 some (omega arith) (omega arith) (omega arith) (inl sum) in
        ap (λ (n : ℕ). (p + n) % (2 * half)) r ∙ mod_is (p + 0) (2 * half) 0 s (omega arith) bs
    | inr apart ↦
        let sum : (p - s) + (s + 2 * half - p) ≡ 2 * half = omega arith in
        let r = rem_turned half (p + 2 * half - s) (p - s) 1 (s + 2 * half - p) some (omega arith) (omega arith) (omega arith) (inr sum) in
        ap (λ (n : ℕ). (p + n) % (2 * half)) r ∙ mod_is (p + (s + 2 * half - p)) (2 * half) 1 s (omega arith) bs
  ]
]

pub restored_back : (half : ℕ) (negative : Bool) (p s : ℕ) → IsHalf half → p < 2 * half → s < 2 * half → s ≡ restored half negative p (difference half negative p s)
unfolding restored difference
restored_back half true p s h bp bs = let least : 256 ≤ half = h.least in sym (restored_negative half p s (omega arith) bp bs)
restored_back half false p s h bp bs = let least : 256 ≤ half = h.least in sym (restored_plain half p s (omega arith) bp bs)

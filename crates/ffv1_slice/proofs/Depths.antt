-- The bits of a sample.
use Rattle.std.proofs.Common.{◌≡◌, ℕ, ◌*◌, ◌/◌, ◌^◌, ◌≤◌, true, false, eqb, refl, sym, subst, arith, inl, inr}
use Rattle.std.proofs.lemmas.Bool.{cases_eq, ne_eqb}
use Rattle.std.specs.Prelude.{IsTrue}
use Rattle.ffv1_params.specs.Parameters.{is_depth}
use Rattle.ffv1_slice.specs.Below.{IsHalf}

half_at : (bits : ℕ) → bits ≤ 16 → 2 ^ bits ≡ 2 * (2 ^ bits / 2) → 256 ≤ 2 ^ bits → 2 ^ bits ≤ 65536 → IsHalf (2 ^ bits)
half_at bits few even least most = record { bits = bits; few = few; power = refl; even = even; least = least; most = most }

pub depth_half : (bits : ℕ) → IsTrue (is_depth bits) → IsHalf (2 ^ bits)
depth_half bits d = elim (cases_eq bits 8) as (λ _. IsHalf (2 ^ bits)) [
  | inl e ↦ subst (λ (n : ℕ). IsHalf (2 ^ n)) (sym e) (half_at 8 (omega arith) refl (omega arith) (omega arith))
  | inr not8 ↦ elim (cases_eq bits 10) as (λ _. IsHalf (2 ^ bits)) [
    | inl e ↦ subst (λ (n : ℕ). IsHalf (2 ^ n)) (sym e) (half_at 10 (omega arith) refl (omega arith) (omega arith))
    | inr not10 ↦ elim (cases_eq bits 12) as (λ _. IsHalf (2 ^ bits)) [
      | inl e ↦ subst (λ (n : ℕ). IsHalf (2 ^ n)) (sym e) (half_at 12 (omega arith) refl (omega arith) (omega arith))
      | inr not12 ↦ elim (cases_eq bits 16) as (λ _. IsHalf (2 ^ bits)) [
        | inl e ↦ subst (λ (n : ℕ). IsHalf (2 ^ n)) (sym e) (half_at 16 (omega arith) refl (omega arith) (omega arith))
        | inr not16 ↦
            let no8 : eqb bits 8 ≡ false = ne_eqb bits 8 not8 in
            let no10 : eqb bits 10 ≡ false = ne_eqb bits 10 not10 in
            let no12 : eqb bits 12 ≡ false = ne_eqb bits 12 not12 in
            let no16 : eqb bits 16 ≡ false = ne_eqb bits 16 not16 in
            let bad : false ≡ true = rw (no8, no10, no12, no16) at d in
            cc
      ]
    ]
  ]
]

-- what the code has for two to the bits
pub depth_power : (bits half : ℕ) → IsTrue (is_depth bits) → half ≡ 2 ^ bits → IsHalf half
depth_power bits half d e = subst IsHalf (sym e) (depth_half bits d)

-- other bits than 8, 10 and 12 are 16
pub last_depth : (bits : ℕ) → IsTrue (is_depth bits) → (bits ≡ 8 → ⊥) → (bits ≡ 10 → ⊥) → (bits ≡ 12 → ⊥) → bits ≡ 16
last_depth bits d not8 not10 not12 = elim (cases_eq bits 16) as (λ _. bits ≡ 16) [
  | inl e ↦ e
  | inr not16 ↦
      let no8 : eqb bits 8 ≡ false = ne_eqb bits 8 not8 in
      let no10 : eqb bits 10 ≡ false = ne_eqb bits 10 not10 in
      let no12 : eqb bits 12 ≡ false = ne_eqb bits 12 not12 in
      let no16 : eqb bits 16 ≡ false = ne_eqb bits 16 not16 in
      let bad : false ≡ true = rw (no8, no10, no12, no16) at d in
      cc
]

pub ruleset depths = (depth_power, last_depth)

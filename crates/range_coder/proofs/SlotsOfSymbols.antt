-- A symbol uses the 32 slots of its set.
use Rattle.std.proofs.Common.{ℕ, zero, suc, ◌<◌, ◌≤◌, min, List, [], ◌∷◌, ◌++◌, Bool, true, false, refl, sym, subst, arith, inl, inr}
use Rattle.std.specs.Prelude.{ℤ, unsigned_abs}
use Rattle.std.specs.Int.{is_negative}
use Rattle.std.proofs.lemmas.Bool.{cases_eq}
use Rattle.std.proofs.lemmas.List.Elements.{All-append, All-cons, All-nil}
use Rattle.std.proofs.Math.Nat.{min-le_right}
use Rattle.range_coder.specs.Choices.{Choice, UseSlots}
use Rattle.range_coder.specs.Symbol.{choice, exponent_of, exponent_slot, sign_slot, ones, low_bits, exponent_choices, sign_choices, number_choices, symbol_choices, overlong_choices}
use Rattle.range_coder.proofs.ChoiceLaws.{HasSlot}
use Rattle.range_coder.proofs.Exponents.{symbol_of_number, symbol_of_zero}

nothing : UseSlots 32 []
nothing = record { each = All-nil (HasSlot 32) }

one : (slot : ℕ) (bit : Bool) → slot < 32 → UseSlots 32 (choice slot bit ∷ [])
one slot bit below = record { each = All-cons (HasSlot 32) (choice slot bit) [] below (All-nil (HasSlot 32)) }

both : (left right : List Choice) → UseSlots 32 left → UseSlots 32 right → UseSlots 32 (left ++ right)
both left right l r = record { each = All-append (HasSlot 32) left right l.each r.each }

ones_slots : (k : ℕ) → UseSlots 32 (ones k)
unfolding ones
ones_slots zero = nothing
ones_slots (suc k) =
    let small : min k 9 ≤ 9 = min-le_right k 9 in
    both (ones k) (choice (exponent_slot k) true ∷ []) (ones_slots k) (one (exponent_slot k) true (omega arith))

bits_slots : (k magnitude : ℕ) → UseSlots 32 (low_bits k magnitude)
unfolding low_bits
bits_slots zero magnitude = nothing
bits_slots (suc k) magnitude =
    let small : min k 9 ≤ 9 = min-le_right k 9 in
    record { each = All-cons (HasSlot 32) _ (low_bits k magnitude) (omega arith) ((bits_slots k magnitude).each) }

sign_slots : (signed : Bool) (e : ℕ) (negative : Bool) → UseSlots 32 (sign_choices signed e negative)
sign_slots true e negative = let small : min e 10 ≤ 10 = min-le_right e 10 in one (sign_slot e) negative (omega arith)
sign_slots false e negative = nothing

number_slots : (e magnitude : ℕ) (negative signed : Bool) → UseSlots 32 (number_choices e magnitude negative signed)
number_slots e magnitude negative signed =
    let some : List Choice = choice 0 false ∷ [] in
    let small : min e 9 ≤ 9 = min-le_right e 9 in
    both (some ++ exponent_choices e ++ low_bits e magnitude) (sign_choices signed e negative)
    (both (some ++ exponent_choices e) (low_bits e magnitude)
    (both some (exponent_choices e) (one 0 false (omega arith))
    (both (ones e) (choice (exponent_slot e) false ∷ []) (ones_slots e) (one (exponent_slot e) false (omega arith))))
    (bits_slots e magnitude))
    (sign_slots signed e negative)

pub symbol_slots : (value : ℤ) (signed : Bool) → UseSlots 32 (symbol_choices value signed)
symbol_slots value signed = elim (cases_eq (unsigned_abs value) 0) [
  | inl none ↦ subst (UseSlots 32) (sym (symbol_of_zero value signed none)) (one 0 true (omega arith))
  | inr some ↦
      let above : 0 < unsigned_abs value = omega arith in
      subst (UseSlots 32) (sym (symbol_of_number value signed (is_negative value) (unsigned_abs value) refl refl above)) (number_slots (exponent_of (unsigned_abs value)) (unsigned_abs value) (is_negative value) signed)
]

pub overlong_slots : UseSlots 32 overlong_choices
unfolding overlong_choices
overlong_slots = both (choice 0 false ∷ []) (ones 31) (one 0 false (omega arith)) (ones_slots 31)

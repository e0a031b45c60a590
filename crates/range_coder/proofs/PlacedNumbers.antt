-- Lists of numbers, each placed by those before it: they are the same, or their choices part.
use Rattle.std.proofs.Common.{◌≡◌, ◌≢◌, ℕ, ◌⊎◌, List, [], ◌∷◌, ◌++◌, length, Bool, refl, sym, ap, ◌∙◌, subst, arith, inl, inr}
use Rattle.std.proofs.lemmas.Bool.{cases_eq}
use Rattle.std.specs.Prelude.{ℤ, pos, negsuc, unsigned_abs}
use Rattle.range_coder.specs.Interval.{Reads}
use Rattle.range_coder.specs.Table.{IsClosed, AreLive}
use Rattle.cook_bits.specs.Bits.{AreBytes}
use Rattle.range_coder.specs.Choices.{Choice, moved, decided, UseSlots, Part}
use Rattle.range_coder.specs.Symbol.{AreCodable, symbol_choices, placed_choices}
use Rattle.range_coder.proofs.ChoiceLaws.{parted_are_not_both_read}
use Rattle.range_coder.proofs.Parting.{part_before, part_behind, part_moved, values_part}

cases_value : (left right : ℤ) → (left ≡ right) ⊎ (left ≢ right)
cases_value (pos m) (pos n) = elim (cases_eq m n) [
  | inl e ↦ inl (ap pos e)
  | inr ne ↦ inr (λ (e : pos m ≡ pos n). ne (ap unsigned_abs e))
]
cases_value (negsuc m) (negsuc n) = elim (cases_eq m n) [
  | inl e ↦ inl (ap negsuc e)
  | inr ne ↦ inr (λ (e : negsuc m ≡ negsuc n). ne (let same : unsigned_abs (negsuc m) ≡ unsigned_abs (negsuc n) = ap unsigned_abs e in omega arith))
]
cases_value (pos m) (negsuc n) = inr (λ (e : pos m ≡ negsuc n). cc)
cases_value (negsuc m) (pos n) = inr (λ (e : negsuc m ≡ pos n). cc)

same_or_part : (first : List ℤ → ℕ) (signed : List ℤ → Bool) (before left right : List ℤ) → AreCodable signed before left → AreCodable signed before right → length left ≡ length right → (left ≡ right) ⊎ Part (placed_choices first signed before left) (placed_choices first signed before right)
unfolding placed_choices AreCodable
same_or_part first signed before [] [] l r len = inl refl
same_or_part first signed before [] (v ∷ vs) l r len = absurd (omega arith)
same_or_part first signed before (v ∷ vs) [] l r len = absurd (omega arith)
same_or_part first signed before (v ∷ vs) (w ∷ ws) l r len = elim (cases_value v w) [
  | inl same ↦
      let r' : AreCodable signed (before ++ v ∷ []) ws = subst (λ (x : ℤ). AreCodable signed (before ++ x ∷ []) ws) (sym same) r.1 in
      let rest = same_or_part first signed (before ++ v ∷ []) vs ws l.1 r' (omega arith) in
      let head : List Choice = moved (first before) (symbol_choices v (signed before)) in
      elim rest [
        | inl tails ↦ inl (ap (λ (x : ℤ). x ∷ vs) same ∙ ap (λ (xs : List ℤ). w ∷ xs) tails)
        | inr apart ↦ inr (subst (λ (x : ℤ). Part (head ++ placed_choices first signed (before ++ v ∷ []) vs) (moved (first before) (symbol_choices x (signed before)) ++ placed_choices first signed (before ++ x ∷ []) ws)) same (part_behind head (placed_choices first signed (before ++ v ∷ []) vs) (placed_choices first signed (before ++ v ∷ []) ws) apart))
      ]
  | inr ne ↦ inr (part_before (moved (first before) (symbol_choices v (signed before))) (moved (first before) (symbol_choices w (signed before))) (placed_choices first signed (before ++ v ∷ []) vs) (placed_choices first signed (before ++ w ∷ []) ws) (part_moved (first before) (symbol_choices v (signed before)) (symbol_choices w (signed before)) (values_part (signed before) v w l.0 r.0 ne)))
]

pub placed_numbers_are_one : (table states bytes : List ℕ) (first : List ℤ → ℕ) (signed : List ℤ → Bool) (left right : List ℤ) → IsClosed table → AreLive table states → UseSlots (length states) (placed_choices first signed [] left) → UseSlots (length states) (placed_choices first signed [] right) → AreBytes bytes → AreCodable signed [] left → AreCodable signed [] right → length left ≡ length right → Reads bytes (decided table states (placed_choices first signed [] left)) → Reads bytes (decided table states (placed_choices first signed [] right)) → left ≡ right
placed_numbers_are_one table states bytes first signed left right closed are u v bs l r len reads reads' = elim (same_or_part first signed [] left right l r len) [
  | inl same ↦ same
  | inr apart ↦ absurd (parted_are_not_both_read table states bytes (placed_choices first signed [] left) (placed_choices first signed [] right) closed are u v bs apart reads reads')
]

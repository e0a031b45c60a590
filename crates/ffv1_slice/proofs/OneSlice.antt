-- Bytes code one head and one tile.
use Rattle.std.proofs.Common.{◌≡◌, ◌⊎◌, ℕ, ◌^◌, ◌<◌, ◌≤◌, List, [], ◌∷◌, ◌++◌, All, Bool, true, false, length, refl, sym, ap, ◌∙◌, subst, arith, rules, inl, inr}
use Rattle.std.proofs.lemmas.Bool.{cases_eq}
use Rattle.std.proofs.lemmas.List.{append-nil}
use Rattle.std.proofs.lemmas.List.Elements.{All-head, All-tail}
use Rattle.std.specs.Prelude.{ℤ, pos, negsuc}
use Rattle.std.specs.Int.{is_negative}
use Rattle.range_coder.specs.Choices.{Choice, Part, moved}
use Rattle.range_coder.specs.Laws.{SymbolsPart}
use Rattle.range_coder.specs.Symbol.{IsCodable, symbol_choices}
use Rattle.ffv1_params.specs.Parameters.{Parameters}
use Rattle.ffv1_slice.specs.declared.around.Around.{Around}
use Rattle.ffv1_slice.specs.declared.head.SliceHead.{SliceHead}
use Rattle.ffv1_slice.specs.Plane.{around_at, context, prediction, restored, slot_in, IsSample}
use Rattle.ffv1_slice.specs.Slice.{number_choices, header_choices, first_slot, plane_values, IsLine, IsRow, AreRows}
use Rattle.ffv1_slice.proofs.Parting.{SameOrPart, split_apart, joins_apart}
use Rattle.ffv1_slice.proofs.Cells.{SameAbove, around_same}

-- two integers are the same or not
cases_z : (a b : ℤ) → (a ≡ b) ⊎ (a ≡ b → ⊥)
cases_z (pos m) (pos n) = elim (cases_eq m n) [ inl e ↦ inl (ap pos e) | inr ne ↦ inr (λ (e : pos m ≡ pos n). ne (cc)) ]
cases_z (negsuc m) (negsuc n) = elim (cases_eq m n) [ inl e ↦ inl (ap negsuc e) | inr ne ↦ inr (λ (e : negsuc m ≡ negsuc n). ne (cc)) ]
cases_z (pos m) (negsuc n) = inr (λ (e : pos m ≡ negsuc n). cc)
cases_z (negsuc m) (pos n) = inr (λ (e : negsuc m ≡ pos n). cc)

-- two symbols with the same states
symbols_apart : SymbolsPart → (first : ℕ) (signed : Bool) (a b : ℤ) → IsCodable a signed → IsCodable b signed → SameOrPart (a ≡ b) (moved first (symbol_choices a signed)) (moved first (symbol_choices b signed))
symbols_apart law first signed a b ca cb = elim (cases_z a b) [
  | inl e ↦ inl (e, ap (λ (v : ℤ). moved first (symbol_choices v signed)) e)
  | inr ne ↦
      let whole : Part (moved first (symbol_choices a signed) ++ []) (moved first (symbol_choices b signed) ++ []) = law first signed a b [] [] [] ca cb ne in
      let p : Part (moved first (symbol_choices a signed)) (moved first (symbol_choices b signed)) = rw (append-nil (moved first (symbol_choices a signed)), append-nil (moved first (symbol_choices b signed))) at whole in
      inr p
]

-- two samples in the same surroundings
sample_apart : SymbolsPart → (half : ℕ) (values : List ℤ) (first : ℕ) (a b : Around) (s t : ℕ) (c d : List Choice) → a ≡ b → IsSample half values first a s c → IsSample half values first b t d → SameOrPart (s ≡ t) c d
sample_apart law half values first a b s t c d same p q =
    let q' : IsSample half values first a t d = subst (λ (e : Around). IsSample half values first e t d) (sym same) q in
    let slot : ℕ = slot_in first (context values a) in
    elim (symbols_apart law (slot_in first (context values a)) true p.value q'.value p.codable q'.codable) as (λ _. SameOrPart (s ≡ t) c d) [
      | inl e ↦
          let value : p.value ≡ q'.value = e.0 in
          let st : s ≡ t = p.restores ∙ ap (λ (v : ℤ). restored half (is_negative (context values a)) (prediction a) v) value ∙ sym q'.restores in
          inl (st, p.is ∙ e.1 ∙ sym q'.is)
      | inr part ↦
          let part' : Part c d = rw (p.is, q'.is) part in
          inr part'
    ]

-- two lines of a plane, where all above them is the same
line_apart : SymbolsPart → (params : Parameters) (head : SliceHead) (width : ℕ) (s t : ℕ → ℕ → ℕ → ℕ) (y plane : ℕ) (c d : List Choice) → 1 ≤ width → SameAbove width (s plane) (t plane) y → IsLine params head width s y plane c → IsLine params head width t y plane d → SameOrPart ((x : ℕ) → x < width → s plane y x ≡ t plane y x) c d
line_apart law params head width s t y plane c d some above p q =
    let half : ℕ = 2 ^ params.bits in
    joins_apart width
    (λ x. IsSample (2 ^ params.bits) (plane_values params head plane) (first_slot params plane) (around_at width (s plane) y x) (s plane y x))
    (λ x. IsSample (2 ^ params.bits) (plane_values params head plane) (first_slot params plane) (around_at width (t plane) y x) (t plane y x))
    (λ x. s plane y x ≡ t plane y x) c d
    (λ x c' d' within left p' q'. sample_apart law (2 ^ params.bits) (plane_values params head plane) (first_slot params plane) (around_at width (s plane) y x) (around_at width (t plane) y x) (s plane y x) (t plane y x) c' d' (around_same width (s plane) (t plane) y x some above left) p' q')
    p q

abbrev pub SameRow : ℕ → (ℕ → ℕ → ℕ → ℕ) → (ℕ → ℕ → ℕ → ℕ) → ℕ → Type 0
SameRow width s t y = (plane : ℕ) → plane < 3 → (x : ℕ) → x < width → s plane y x ≡ t plane y x

-- two rows, where all above them is the same
row_apart : SymbolsPart → (params : Parameters) (head : SliceHead) (width : ℕ) (s t : ℕ → ℕ → ℕ → ℕ) (y : ℕ) (c d : List Choice) → 1 ≤ width → ((k : ℕ) → k < y → SameRow width s t k) → IsRow params head width s y c → IsRow params head width t y d → SameOrPart (SameRow width s t y) c d
row_apart law params head width s t y c d some above p q =
    joins_apart 3 (IsLine params head width s y) (IsLine params head width t y)
    (λ plane. (x : ℕ) → x < width → s plane y x ≡ t plane y x) c d
    (λ plane c' d' within before p' q'. line_apart law params head width s t y plane c' d' some (λ y' x' b b'. above y' b plane within x' b') p' q')
    p q

pub rows_apart : SymbolsPart → (params : Parameters) (head : SliceHead) (width height : ℕ) (s t : ℕ → ℕ → ℕ → ℕ) (c d : List Choice) → 1 ≤ width → AreRows params head width s height c → AreRows params head width t height d → SameOrPart ((y : ℕ) → y < height → SameRow width s t y) c d
rows_apart law params head width height s t c d some p q =
    joins_apart height (IsRow params head width s) (IsRow params head width t) (SameRow width s t) c d
    (λ y c' d' within above p' q'. row_apart law params head width s t y c' d' some above p' q')
    p q

-- two headers of as many numbers
abbrev pub IsSmall : ℕ → Type 0
IsSmall n = n < 2 ^ 31

header_more : (n : ℕ) (ns : List ℕ) → header_choices (n ∷ ns) ≡ number_choices n ++ header_choices ns
unfolding header_choices
header_more n ns = refl

number_apart : SymbolsPart → (n m : ℕ) → IsSmall n → IsSmall m → SameOrPart (n ≡ m) (number_choices n) (number_choices m)
number_apart law n m small small' =
    let cn : IsCodable (pos n) false = (search rules, small) in
    let cm : IsCodable (pos m) false = (search rules, small') in
    elim (symbols_apart law 1 false (pos n) (pos m) cn cm) as (λ _. SameOrPart (n ≡ m) (number_choices n) (number_choices m)) [
      | inl e ↦ (let ne : pos n ≡ pos m = e.0 in let is : n ≡ m = cc in inl (is, e.1))
      | inr part ↦ inr part
    ]

pub header_apart : SymbolsPart → (ns ms : List ℕ) → All IsSmall ns → All IsSmall ms → length ns ≡ length ms → SameOrPart (ns ≡ ms) (header_choices ns) (header_choices ms)
header_apart law [] [] a b len = inl (refl, refl)
header_apart law [] (m ∷ ms) a b len = absurd (omega arith)
header_apart law (n ∷ ns) [] a b len = absurd (omega arith)
header_apart law (n ∷ ns) (m ∷ ms) a b len =
    let rest : SameOrPart (ns ≡ ms) (header_choices ns) (header_choices ms) = header_apart law ns ms (All-tail IsSmall n ns a) (All-tail IsSmall m ms b) (omega arith) in
    let first : SameOrPart (n ≡ m) (number_choices n) (number_choices m) = number_apart law n m (All-head IsSmall n ns a) (All-head IsSmall m ms b) in
    elim (split_apart (n ≡ m) (ns ≡ ms) (number_choices n) (header_choices ns) (number_choices m) (header_choices ms) (header_choices (n ∷ ns)) (header_choices (m ∷ ms)) (header_more n ns) (header_more m ms) first (λ _. rest)) as (λ _. SameOrPart ((n ∷ ns) ≡ (m ∷ ms)) (header_choices (n ∷ ns)) (header_choices (m ∷ ms))) [
      | inl same ↦
          let hd : n ≡ m = same.0.0 in
          let tl : ns ≡ ms = same.0.1 in
          let e : (n ∷ ns) ≡ (m ∷ ms) = cc in
          inl (e, same.1)
      | inr part ↦ inr part
    ]

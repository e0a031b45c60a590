-- Two lists of choices are the same, or part.
use Rattle.std.proofs.Common.{◌≡◌, ◌⊎◌, ℕ, zero, suc, ◌<◌, List, ◌∷◌, ◌++◌, sym, ap, ◌∙◌, subst, arith, append_assoc, inl, inr}
use Rattle.std.proofs.lemmas.Bool.{cases_eq}
use Rattle.range_coder.specs.Choices.{Choice, Part}
use Rattle.ffv1_slice.specs.Plane.{Split, Joins}

-- what parts goes on to part, whatever follows
pub part_before : (left right left_more right_more : List Choice) → Part left right → Part (left ++ left_more) (right ++ right_more)
part_before left right left_more right_more p =
    let l : Choice = record { slot = p.slot; bit = p.left_bit } in
    let r : Choice = record { slot = p.slot; bit = p.right_bit } in
    record {
      common = p.common;
      slot = p.slot;
      left_bit = p.left_bit;
      right_bit = p.right_bit;
      left_rest = p.left_rest ++ left_more;
      right_rest = p.right_rest ++ right_more;
      left_is = ap (λ (cs : List Choice). cs ++ left_more) p.left_is ∙ append_assoc p.common (l ∷ p.left_rest) left_more;
      right_is = ap (λ (cs : List Choice). cs ++ right_more) p.right_is ∙ append_assoc p.common (r ∷ p.right_rest) right_more;
      differ = p.differ;
    }

-- and whatever came before
pub part_behind : (front left right : List Choice) → Part left right → Part (front ++ left) (front ++ right)
part_behind front left right p =
    let l : Choice = record { slot = p.slot; bit = p.left_bit } in
    let r : Choice = record { slot = p.slot; bit = p.right_bit } in
    record {
      common = front ++ p.common;
      slot = p.slot;
      left_bit = p.left_bit;
      right_bit = p.right_bit;
      left_rest = p.left_rest;
      right_rest = p.right_rest;
      left_is = ap (λ (cs : List Choice). front ++ cs) p.left_is ∙ sym (append_assoc front p.common (l ∷ p.left_rest));
      right_is = ap (λ (cs : List Choice). front ++ cs) p.right_is ∙ sym (append_assoc front p.common (r ∷ p.right_rest));
      differ = p.differ;
    }

-- two lists are the same, and something holds, or they part
abbrev pub SameOrPart : Type 0 → List Choice → List Choice → Type 0
SameOrPart A left right = (A × (left ≡ right)) ⊎ Part left right

-- two lists in two parts each: the first parts are the same or part, and where they are the same, so do the second
pub split_apart : (A B : Type 0) (l l' r r' left right : List Choice) → left ≡ l ++ l' → right ≡ r ++ r' → SameOrPart A l r → (A → SameOrPart B l' r') → SameOrPart (A × B) left right
split_apart A B l l' r r' left right is is' fronts backs = elim fronts as (λ _. SameOrPart (A × B) left right) [
  | inl same ↦ elim (backs same.0) as (λ _. SameOrPart (A × B) left right) [
    | inl same' ↦
        let e : left ≡ right = is ∙ ap (λ (cs : List Choice). cs ++ l') same.1 ∙ ap (λ (cs : List Choice). r ++ cs) same'.1 ∙ sym is' in
        let both : A × B = (same.0, same'.0) in
        inl (both, e)
    | inr part ↦
        let behind : Part (r ++ l') (r ++ r') = part_behind r l' r' part in
        let e : left ≡ r ++ l' = is ∙ ap (λ (cs : List Choice). cs ++ l') same.1 in
        let p : Part left right = rw (e, is') behind in
        inr p
  ]
  | inr part ↦
      let before : Part (l ++ l') (r ++ r') = part_before l r l' r' part in
      let p : Part left right = rw (is, is') before in
      inr p
]

-- what holds of each number below n, and of n
pub all_below : (n : ℕ) (A : ℕ → Type 0) → ((k : ℕ) → k < n → A k) → A n → (k : ℕ) → k < suc n → A k
all_below n A below here k less = elim (cases_eq k n) as (λ _. A k) [
  | inl is ↦ subst A (sym is) here
  | inr isnt ↦ below k (omega arith)
]

-- so of lists that are as many parts, where each part is the same or parts once all before it are the same
pub joins_apart : (n : ℕ) (P Q : ℕ → List Choice → Type 0) (A : ℕ → Type 0) (cs ds : List Choice) → ((x : ℕ) (c d : List Choice) → x < n → ((k : ℕ) → k < x → A k) → P x c → Q x d → SameOrPart (A x) c d) → Joins n P cs → Joins n Q ds → SameOrPart ((k : ℕ) → k < n → A k) cs ds
unfolding Joins
joins_apart zero P Q A cs ds each p q =
    let e : cs ≡ ds = p ∙ sym q in
    let none : (k : ℕ) → k < 0 → A k = λ k below. absurd (omega arith) in
    inl (none, e)
joins_apart (suc n) P Q A cs ds each p q =
    let s : Split (Joins n P) (P n) cs = p in
    let t : Split (Joins n Q) (Q n) ds = q in
    let fronts : SameOrPart ((k : ℕ) → k < n → A k) s.left t.left = joins_apart n P Q A s.left t.left (λ x c d below. each x c d (omega arith)) s.left_is t.left_is in
    let backs : ((k : ℕ) → k < n → A k) → SameOrPart (A n) s.right t.right = λ all. each n s.right t.right (omega arith) all s.right_is t.right_is in
    let both : SameOrPart (((k : ℕ) → k < n → A k) × A n) cs ds = split_apart ((k : ℕ) → k < n → A k) (A n) s.left s.right t.left t.right cs ds s.is t.is fronts backs in
    elim both as (λ _. SameOrPart ((k : ℕ) → k < suc n → A k) cs ds) [
      | inl same ↦ inl (all_below n A same.0.0 same.0.1, same.1)
      | inr part ↦ inr part
    ]

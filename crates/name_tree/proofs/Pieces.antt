-- Pieces of a name: up to a slash, or to the end where no slash is left.
use Rattle.std.proofs.Common.{◌≡◌, ◌≢◌, ℕ, zero, suc, ◌+◌, ◌-◌, ◌<◌, ◌≤◌, List, [], ◌∷◌, ◌++◌, length, get_or, take, drop, refl, sym, ap, ◌∙◌, subst, arith, inl, inr, Some, None}
use Rattle.std.proofs.lemmas.Bool.{cases_lt}
use Rattle.std.proofs.lemmas.List.{append-nil, drop-take, get_or-drop, length-drop}
use Rattle.name_tree.specs.Tree.{EndsAtSlash, IsFolderKey}
use Rattle.name_tree.specs.Searching.{IsEnd}
use Rattle.name_tree.proofs.Orders.{behind, inside}

-- no slash among the first bytes
abbrev pub NoneBefore : ℕ → List ℕ → Type 0
NoneBefore n xs = (k : ℕ) → k < n → get_or xs k 0 ≢ 47

ends_at : (n : ℕ) (xs : List ℕ) → n < length xs → NoneBefore n xs → get_or xs n 0 ≡ 47 → EndsAtSlash (take (suc n) xs) × IsFolderKey (take (suc n) xs)
ends_at n [] lt none e = absurd (omega arith)
ends_at zero (x ∷ xs) lt none e = (tt, e)
ends_at (suc n) (x ∷ []) lt none e = absurd (omega arith)
ends_at (suc n) (x ∷ y ∷ xs) lt none e =
    let more = ends_at n (y ∷ xs) (omega arith) (λ k h. none (suc k) (omega arith)) e in
    ((none 0 (omega arith), more.0), more.1)

ends_never : (xs : List ℕ) → NoneBefore (length xs) xs → EndsAtSlash xs × (IsFolderKey xs → xs ≡ [])
ends_never [] none = (tt, λ f. refl)
ends_never (x ∷ []) none = (tt, λ f. absurd (none 0 (omega arith) f))
ends_never (x ∷ y ∷ xs) none =
    let more = ends_never (y ∷ xs) (λ k h. none (suc k) (omega arith)) in
    ((none 0 (omega arith), more.0), λ f. let no : y ∷ xs ≡ [] = more.1 f in cc)

-- the loop over a piece
pub record NoneYet (name : List ℕ) (start end : ℕ) : Type 0 where
  pub from : start ≤ end
  pub within : end ≤ length name
  pub none : (k : ℕ) → start ≤ k → k < end → get_or name k 0 ≢ 47

shifted : (name : List ℕ) (start n : ℕ) → ((k : ℕ) → start ≤ k → k < start + n → get_or name k 0 ≢ 47) → NoneBefore n (drop start name)
shifted name start n none k h = rw (get_or-drop start name k 0) (none (start + k) (omega arith) (omega arith))

pub piece_at : (name : List ℕ) (start end : ℕ) → NoneYet name start end → end < length name → get_or name end 0 ≡ 47 → IsEnd name start (Some (end + 1))
piece_at name start end yet lt e =
    let from = yet.from in
    let n = end - start in
    let there : start + n ≡ end = omega arith in
    let more : start + suc n ≡ end + 1 = omega arith in
    let short : n < length (drop start name) = omega (arith, length-drop start name) in
    let at : get_or (drop start name) n 0 ≡ 47 = get_or-drop start name n 0 ∙ ap (λ (i : ℕ). get_or name i 0) there ∙ e in
    let both = ends_at n (drop start name) short (shifted name start n (λ k a b. yet.none k a (omega arith))) at in
    let cut : take (suc n) (drop start name) ≡ drop start (take (end + 1) name) = sym (drop-take start (suc n) name) ∙ ap (λ (i : ℕ). drop start (take i name)) more in
    (omega arith, omega arith, subst EndsAtSlash cut both.0, subst IsFolderKey cut both.1)

pub no_piece : (name : List ℕ) (start end : ℕ) → NoneYet name start end → length name ≤ end → IsEnd name start None
no_piece name start end yet ge =
    let from = yet.from in
    let len = length-drop start name in
    let n = length (drop start name) in
    ends_never (drop start name) (shifted name start n (λ k a b. yet.none k a (omega arith)))

pub piece_start : (name : List ℕ) (start : ℕ) → start ≤ length name → NoneYet name start start
piece_start name start le = record { from = omega arith; within = le; none = λ k a b. absurd (omega arith) }

pub piece_more : (name : List ℕ) (start end : ℕ) → NoneYet name start end → end < length name → get_or name end 0 ≢ 47 → NoneYet name start (end + 1)
piece_more name start end yet lt ne =
    let from = yet.from in
    record {
      from = omega arith;
      within = omega arith;
      none = λ k a b. elim (cases_lt k end) [
        | inl less ↦ yet.none k a less
        | inr ge ↦ let same : k ≡ end = omega arith in λ e. ne (ap (λ (i : ℕ). get_or name i 0) (sym same) ∙ e)
      ];
    }

-- ---- the same piece

-- pieces that end at a slash and begin one list are one
pub one_piece : (p q u v : List ℕ) → EndsAtSlash p → EndsAtSlash q → IsFolderKey p → IsFolderKey q → p ≢ [] → q ≢ [] → p ++ u ≡ q ++ v → p ≡ q
one_piece p q u v pe qe pf qf ps qs e = elim (behind p u q v e) [
  | inl ([], w, x) ↦ sym (w ∙ append-nil p)
  | inl (y ∷ c, w, x) ↦ absurd (inside p (y ∷ c) pf ps (λ h. cc) (subst EndsAtSlash w qe))
  | inr ([], w, x) ↦ w ∙ append-nil q
  | inr (y ∷ c, w, x) ↦ absurd (inside q (y ∷ c) qf qs (λ h. cc) (subst EndsAtSlash w pe))
]

-- What follows of a tree: each key that ends at a slash and begins a key is a key, and children lead down.
use Rattle.std.proofs.Common.{◌≡◌, ◌≢◌, ℕ, zero, suc, ◌<◌, ◌⊎◌, List, [], ◌∷◌, ◌++◌, refl, sym, ap, ◌∙◌, subst, arith, inl, inr}
use Rattle.std.proofs.lemmas.Bool.{cases_eq}
use Rattle.std.proofs.lemmas.List.{append-nil, append_assoc}
use Rattle.name_tree.specs.Tree.{EndsAtSlash, IsPiece, IsFolderKey, Links, IsTree}
use Rattle.name_tree.proofs.Orders.{behind, folder_tail, inside, piece_ends}

-- a child on the way from a place to one below it
pub record LeadsTo (count : ℕ) (t : Links) (p j : ℕ) : Type 0 where
  pub child : ℕ
  pub some : 0 < child
  pub within : child < count
  pub under : t.parent child ≡ p
  pub is : (child ≡ j) ⊎ ((rest : List ℕ) × (t.key j ≡ t.key child ++ rest) × IsFolderKey (t.key child))

pub nil_from_append : (xs ys : List ℕ) → xs ++ ys ≡ [] → ys ≡ []
nil_from_append [] ys e = e
nil_from_append (x ∷ xs) ys e = cc

pub nil_from_append_left : (xs ys : List ℕ) → xs ++ ys ≡ [] → xs ≡ []
nil_from_append_left [] ys e = refl
nil_from_append_left (x ∷ xs) ys e = cc

module _ {count : ℕ} {t : Links} (tree : IsTree count t) where
  -- keys that are cut at one place
  same_place : (p q : ℕ) → p < count → q < count → t.key p ≡ t.key q ++ [] → q ≡ p
  same_place p q pl ql e = tree.one q p ql pl (sym (e ∙ append-nil (t.key q)))

  itself : (p j : ℕ) → 0 < j → j < count → t.parent j ≡ p → LeadsTo count t p j
  itself p j some lt e = record { child = j; some = some; within = lt; under = e; is = inl refl }

  further : (p q j : ℕ) (piece : List ℕ) → IsFolderKey (t.key q) → t.key j ≡ t.key q ++ piece → LeadsTo count t p q → LeadsTo count t p j
  further p q j piece folder e way = record {
    child = way.child;
    some = way.some;
    within = way.within;
    under = way.under;
    is = elim way.is [
      | inl same ↦ inr (piece, e ∙ ap (λ (i : ℕ). t.key i ++ piece) (sym same), subst (λ (i : ℕ). IsFolderKey (t.key i)) (sym same) folder)
      | inr more ↦ inr (more.0 ++ piece, e ∙ ap (λ (k : List ℕ). k ++ piece) more.1 ∙ append_assoc (t.key way.child) more.0 piece, more.2)
    ];
  }

  cut_inside : (key c u piece : List ℕ) (y : ℕ) (q : List ℕ) → IsFolderKey key → key ≡ q ++ y ∷ c → IsPiece piece → piece ≡ (y ∷ c) ++ u → u ≢ [] → ⊥
  cut_inside key c u piece y q folder e is f more =
      inside (y ∷ c) u (folder_tail q y c (subst IsFolderKey e folder)) (λ h. cc) more (subst EndsAtSlash f (piece_ends piece is))

  pub leads : (fuel p j : ℕ) (u : List ℕ) → j < fuel → p < count → j < count → IsFolderKey (t.key p) → t.key j ≡ t.key p ++ u → u ≢ [] → LeadsTo count t p j
  leads zero p j u less pl jl folder e more = absurd (omega arith)
  leads (suc fuel) p j u less pl jl folder e more = elim (cases_eq j 0) [
    | inl zero_is ↦ absurd (more (nil_from_append (t.key p) u (sym e ∙ ap t.key zero_is ∙ tree.root)))
    | inr ne ↦
        let some : 0 < j = omega arith in
        let q = t.parent j in
        let up : q < j = tree.up j some jl in
        let ql : q < count = omega arith in
        let h = tree.hangs j some jl in
        elim (behind (t.key q) h.0 (t.key p) u (sym h.2 ∙ e)) [
          | inl ([], w, v) ↦ itself p j some jl (same_place p q pl ql w)
          | inl (y ∷ c, w, v) ↦ absurd (cut_inside (t.key p) c u h.0 y (t.key q) folder w h.1 v more)
          | inr ([], w, v) ↦ itself p j some jl (sym (same_place q p ql pl w))
          | inr (y ∷ c, w, v) ↦ further p q j h.0 (tree.folder j some jl) h.2 (leads fuel p q (y ∷ c) (omega arith) pl ql folder w (λ z. cc))
        ]
  ]

  -- what is kept from a place to its parent is kept to each key that begins its own
  pub begins : (P : ℕ → Type 0) → ((i : ℕ) → 0 < i → i < count → P i → P (t.parent i)) → (fuel j : ℕ) (front u : List ℕ)
      → j < fuel → j < count → IsFolderKey front → t.key j ≡ front ++ u → P j → (i : ℕ) × (i < count) × (t.key i ≡ front) × P i
  begins P keeps zero j front u less jl folder e here = absurd (omega arith)
  begins P keeps (suc fuel) j front [] less jl folder e here = (j, jl, e ∙ append-nil front, here)
  begins P keeps (suc fuel) j front (z ∷ u) less jl folder e here = elim (cases_eq j 0) [
    | inl zero_is ↦ let no : z ∷ u ≡ [] = nil_from_append front (z ∷ u) (sym e ∙ ap t.key zero_is ∙ tree.root) in cc
    | inr ne ↦
        let some : 0 < j = omega arith in
        let q = t.parent j in
        let up : q < j = tree.up j some jl in
        let ql : q < count = omega arith in
        let h = tree.hangs j some jl in
        let kept = keeps j some jl here in
        elim (behind (t.key q) h.0 front (z ∷ u) (sym h.2 ∙ e)) [
          | inl ([], w, v) ↦ (q, ql, sym (w ∙ append-nil (t.key q)), kept)
          | inl (y ∷ c, w, v) ↦ absurd (cut_inside front c (z ∷ u) h.0 y (t.key q) folder w h.1 v (λ k. cc))
          | inr (c, w, v) ↦ begins P keeps fuel q front c (omega arith) ql folder w kept
        ]
  ]

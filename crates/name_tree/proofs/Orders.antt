-- The byte order of lists, and where one list begins another.
use Rattle.std.proofs.Common.{◌≡◌, ◌≢◌, ℕ, ◌<◌, ◌⊎◌, List, [], ◌∷◌, ◌++◌, refl, sym, ◌∙◌, subst, arith, inl, inr}
use Rattle.std.proofs.lemmas.Bool.{cases_lt}
use Rattle.std.specs.Ordering.{nat_cmp, ordering_then}
use Rattle.std.specs.Cmp.Lexicographic.{slice_cmp}
use Rattle.std.specs.declared.cmp.Ordering.{Ordering}
use Rattle.std.specs.declared.cmp.Ordering.TheVariants.{Less, Equal, Greater}
use Rattle.std.proofs.lemmas.Cmp.{ranked}
use Rattle.name_tree.specs.Tree.{Below, AtMost, EndsAtSlash, IsPiece, IsFolderKey}

pub not_below_itself : (xs : List ℕ) → Below xs xs → ⊥
not_below_itself [] b = b
not_below_itself (x ∷ xs) (inl lt) = absurd (omega arith)
not_below_itself (x ∷ xs) (inr both) = not_below_itself xs both.1

pub below_trans : (xs ys zs : List ℕ) → Below xs ys → Below ys zs → Below xs zs
below_trans [] [] zs a b = absurd a
below_trans (x ∷ xs) [] zs a b = absurd a
below_trans [] (y ∷ ys) [] a b = absurd b
below_trans [] (y ∷ ys) (z ∷ zs) a b = tt
below_trans (x ∷ xs) (y ∷ ys) [] a b = absurd b
below_trans (x ∷ xs) (y ∷ ys) (z ∷ zs) (inl a) (inl b) = inl (omega arith)
below_trans (x ∷ xs) (y ∷ ys) (z ∷ zs) (inl a) (inr b) = inl (omega arith)
below_trans (x ∷ xs) (y ∷ ys) (z ∷ zs) (inr a) (inl b) = inl (omega arith)
below_trans (x ∷ xs) (y ∷ ys) (z ∷ zs) (inr a) (inr b) = inr (a.0 ∙ b.0, below_trans xs ys zs a.1 b.1)

pub below_at_most : (xs ys zs : List ℕ) → Below xs ys → AtMost ys zs → Below xs zs
below_at_most xs ys zs b (inl e) = subst (λ (l : List ℕ). Below xs l) e b
below_at_most xs ys zs b (inr c) = below_trans xs ys zs b c

pub at_most_below : (xs ys zs : List ℕ) → AtMost xs ys → Below ys zs → Below xs zs
at_most_below xs ys zs (inl e) c = subst (λ (l : List ℕ). Below l zs) (sym e) c
at_most_below xs ys zs (inr b) c = below_trans xs ys zs b c

pub at_most_trans : (xs ys zs : List ℕ) → AtMost xs ys → AtMost ys zs → AtMost xs zs
at_most_trans xs ys zs a (inl e) = subst (λ (l : List ℕ). AtMost xs l) e a
at_most_trans xs ys zs a (inr c) = inr (at_most_below xs ys zs a c)

pub not_both : (xs ys : List ℕ) → Below xs ys → AtMost ys xs → ⊥
not_both xs ys b a = not_below_itself xs (below_at_most xs ys xs b a)

pub compared : (xs ys : List ℕ) → (xs ≡ ys) ⊎ (Below xs ys ⊎ Below ys xs)
compared [] [] = inl refl
compared [] (y ∷ ys) = inr (inl tt)
compared (x ∷ xs) [] = inr (inr tt)
compared (x ∷ xs) (y ∷ ys) = elim (cases_lt x y) [
  | inl lt ↦ inr (inl (inl lt))
  | inr ge ↦ elim (cases_lt y x) [
    | inl gt ↦ inr (inr (inl gt))
    | inr le ↦ let same : x ≡ y = omega arith in elim (compared xs ys) [
      | inl e ↦ inl (λ i. same i ∷ e i)
      | inr (inl b) ↦ inr (inl (inr (same, b)))
      | inr (inr b) ↦ inr (inr (inr (sym same, b)))
    ]
  ]
]

pub front_at_most : (xs rest : List ℕ) → AtMost xs (xs ++ rest)
front_at_most [] [] = inl refl
front_at_most [] (y ∷ ys) = inr tt
front_at_most (x ∷ xs) rest = elim (front_at_most xs rest) [
  | inl e ↦ inl (λ i. x ∷ e i)
  | inr b ↦ inr (inr (refl, b))
]

-- the first is below at a byte where both have one
abbrev pub Splits : List ℕ → List ℕ → Type 0
Splits [] ys = ⊥
Splits (x ∷ xs) [] = ⊥
Splits (x ∷ xs) (y ∷ ys) = (x < y) ⊎ ((x ≡ y) × Splits xs ys)

pub splits_below : (xs ys u v : List ℕ) → Splits xs ys → Below (xs ++ u) (ys ++ v)
splits_below [] ys u v s = absurd s
splits_below (x ∷ xs) [] u v s = absurd s
splits_below (x ∷ xs) (y ∷ ys) u v (inl lt) = inl lt
splits_below (x ∷ xs) (y ∷ ys) u v (inr both) = inr (both.0, splits_below xs ys u v both.1)

-- what is above a list begins with it, or parts from it at a byte
pub beside : (xs ys : List ℕ) → Below xs ys → ((rest : List ℕ) × (ys ≡ xs ++ rest)) ⊎ Splits xs ys
beside [] ys b = inl (ys, refl)
beside (x ∷ xs) [] b = absurd b
beside (x ∷ xs) (y ∷ ys) (inl lt) = inr (inl lt)
beside (x ∷ xs) (y ∷ ys) (inr both) = elim (beside xs ys both.1) [
  | inl more ↦ inl (more.0, (λ i. sym both.0 i ∷ more.1 i))
  | inr s ↦ inr (inr (both.0, s))
]

-- a list begins with the front, or is below it, or parts from it above
pub fronts : (front ys : List ℕ) → ((rest : List ℕ) × (ys ≡ front ++ rest)) ⊎ (Below ys front ⊎ Splits front ys)
fronts [] ys = inl (ys, refl)
fronts (x ∷ front) [] = inr (inl tt)
fronts (x ∷ front) (y ∷ ys) = elim (cases_lt x y) [
  | inl lt ↦ inr (inr (inl lt))
  | inr ge ↦ elim (cases_lt y x) [
    | inl gt ↦ inr (inl (inl gt))
    | inr le ↦ let same : x ≡ y = omega arith in elim (fronts front ys) [
      | inl more ↦ inl (more.0, (λ i. sym same i ∷ more.1 i))
      | inr (inl b) ↦ inr (inl (inr (sym same, b)))
      | inr (inr s) ↦ inr (inr (inr (same, s)))
    ]
  ]
]

pub cons_same : (x y : ℕ) (xs ys : List ℕ) → x ∷ xs ≡ y ∷ ys → (x ≡ y) × (xs ≡ ys)
cons_same x y xs ys e = (cc, cc)

-- two ways to cut one list
pub behind : (p a q b : List ℕ) → p ++ a ≡ q ++ b
    → ((c : List ℕ) × (q ≡ p ++ c) × (a ≡ c ++ b)) ⊎ ((c : List ℕ) × (p ≡ q ++ c) × (b ≡ c ++ a))
behind [] a q b e = inl (q, refl, e)
behind (x ∷ p) a [] b e = inr (x ∷ p, refl, sym e)
behind (x ∷ p) a (y ∷ q) b e = let both = cons_same x y (p ++ a) (q ++ b) e in elim (behind p a q b both.1) [
  | inl w ↦ inl (w.0, (λ i. sym both.0 i ∷ w.1 i), w.2)
  | inr w ↦ inr (w.0, (λ i. both.0 i ∷ w.1 i), w.2)
]

-- ---- slashes

pub folder_tail : (q : List ℕ) (y : ℕ) (ys : List ℕ) → IsFolderKey (q ++ y ∷ ys) → IsFolderKey (y ∷ ys)
folder_tail [] y ys f = f
folder_tail (x ∷ []) y ys f = f
folder_tail (x ∷ z ∷ q) y ys f = folder_tail (z ∷ q) y ys f

-- no slash stands in a piece before its last byte
pub inside : (c u : List ℕ) → IsFolderKey c → c ≢ [] → u ≢ [] → EndsAtSlash (c ++ u) → ⊥
inside [] u f some more ends = some refl
inside (x ∷ []) [] f some more ends = more refl
inside (x ∷ []) (y ∷ u) f some more ends = ends.0 f
inside (x ∷ y ∷ c) u f some more ends = inside (y ∷ c) u f (λ e. cc) more ends.1

pub piece_ends : (a : List ℕ) → IsPiece a → EndsAtSlash a
piece_ends [] p = absurd p
piece_ends (x ∷ a) p = p.1

pub piece_some : (a : List ℕ) → IsPiece a → a ≢ []
piece_some [] p = absurd p
piece_some (x ∷ a) p = λ e. cc

-- ---- std's order

from_less : (x y : ℕ) (xs ys : List ℕ) (r : Ordering) → r ≡ nat_cmp x y → ordering_then r (slice_cmp nat_cmp xs ys) ≡ Less → (slice_cmp nat_cmp xs ys ≡ Less → Below xs ys) → Below (x ∷ xs) (y ∷ ys)
from_less x y xs ys Less h e more = inl (ranked x y Less h)
from_less x y xs ys Equal h e more = inr (ranked x y Equal h, more e)
from_less x y xs ys Greater h e more = cc

pub below_from_less : (xs ys : List ℕ) → slice_cmp nat_cmp xs ys ≡ Less → Below xs ys
below_from_less [] [] e = cc
below_from_less [] (y ∷ ys) e = tt
below_from_less (x ∷ xs) [] e = cc
below_from_less (x ∷ xs) (y ∷ ys) e = from_less x y xs ys (nat_cmp x y) refl e (below_from_less xs ys)

to_less : (x y : ℕ) (xs ys : List ℕ) (r : Ordering) → r ≡ nat_cmp x y → Below (x ∷ xs) (y ∷ ys) → (Below xs ys → slice_cmp nat_cmp xs ys ≡ Less) → ordering_then r (slice_cmp nat_cmp xs ys) ≡ Less
to_less x y xs ys Less h b more = refl
to_less x y xs ys Equal h (inl lt) more = let same : x ≡ y = ranked x y Equal h in absurd (omega arith)
to_less x y xs ys Equal h (inr both) more = more both.1
to_less x y xs ys Greater h (inl lt) more = let gt : y < x = ranked x y Greater h in absurd (omega arith)
to_less x y xs ys Greater h (inr both) more = let gt : y < x = ranked x y Greater h in let e : x ≡ y = both.0 in absurd (omega arith)

pub less_from_below : (xs ys : List ℕ) → Below xs ys → slice_cmp nat_cmp xs ys ≡ Less
less_from_below [] [] b = absurd b
less_from_below [] (y ∷ ys) b = refl
less_from_below (x ∷ xs) [] b = absurd b
less_from_below (x ∷ xs) (y ∷ ys) b = to_less x y xs ys (nat_cmp x y) refl b (less_from_below xs ys)

-- Names in byte order, with their numbers.
use Rattle.std.proofs.Common.{◌≡◌, ◌≢◌, ℕ, zero, suc, ◌+◌, ◌<◌, ◌⊎◌, Bool, true, false, List, [], ◌∷◌, length, get_or, refl, sym, ap, ◌∙◌, subst, arith, inl, inr, if◌then◌else◌}
use Rattle.std.specs.List.{filter, enumerate_from}
use Rattle.std.specs.Ordering.{nat_cmp, is_lt, is_le, ordering_reverse}
use Rattle.std.specs.declared.cmp.Ordering.{Ordering}
use Rattle.std.specs.declared.cmp.Ordering.TheVariants.{Less, Equal, Greater}
use Rattle.std.specs.Cmp.Lexicographic.{slice_cmp, nat_list_cmp_total}
use Rattle.name_tree.specs.Tree.{Below, AtMost}
use Rattle.name_tree.specs.Held.{Numbered, placed, in_order}
use Rattle.name_tree.proofs.Orders.{not_below_itself, below_trans, compared, below_from_less, less_from_below}
use Rattle.name_tree.proofs.Searches.{lt_below, not_lt}

abbrev pub IsMember : Numbered → List Numbered → Type 0
IsMember e [] = ⊥
IsMember e (x ∷ xs) = (e ≡ x) ⊎ IsMember e xs

abbrev pub AllAbove : List ℕ → List Numbered → Type 0
AllAbove k [] = Unit {0}
AllAbove k (x ∷ xs) = Below k x.1 × AllAbove k xs

abbrev pub IsRising : List Numbered → Type 0
IsRising [] = Unit {0}
IsRising (x ∷ xs) = AllAbove x.1 xs × IsRising xs

abbrev pub AreApart : List Numbered → Type 0
AreApart [] = Unit {0}
AreApart (x ∷ xs) = ((e : Numbered) → IsMember e xs → e.1 ≢ x.1) × AreApart xs

above_at : (k : List ℕ) (xs : List Numbered) (e : Numbered) → AllAbove k xs → IsMember e xs → Below k e.1
above_at k [] e a m = absurd m
above_at k (x ∷ xs) e a (inl same) = subst (λ (y : Numbered). Below k y.1) (sym same) a.0
above_at k (x ∷ xs) e a (inr m) = above_at k xs e a.1 m

above_more : (j k : List ℕ) (xs : List Numbered) → Below j k → AllAbove k xs → AllAbove j xs
above_more j k [] b a = tt
above_more j k (x ∷ xs) b a = (below_trans j k x.1 b a.0, above_more j k xs b a.1)

placed_out : (x : Numbered) (xs : List Numbered) (e : Numbered) → IsMember e (placed x xs) → (e ≡ x) ⊎ IsMember e xs
placed_out x [] e (inl same) = inl same
placed_out x [] e (inr m) = absurd m
placed_out x (y ∷ ys) e m = by (is_lt (slice_cmp nat_cmp x.1 y.1)) m (placed_out x ys e)
  where
    by : (b : Bool) → IsMember e (if b then x ∷ y ∷ ys else y ∷ placed x ys) → (IsMember e (placed x ys) → (e ≡ x) ⊎ IsMember e ys) → (e ≡ x) ⊎ IsMember e (y ∷ ys)
    by true m more = m
    by false (inl same) more = inr (inl same)
    by false (inr m) more = elim (more m) [ inl same ↦ inl same | inr w ↦ inr (inr w) ]

placed_in : (x : Numbered) (xs : List Numbered) (e : Numbered) → (e ≡ x) ⊎ IsMember e xs → IsMember e (placed x xs)
placed_in x [] e m = m
placed_in x (y ∷ ys) e m = by (is_lt (slice_cmp nat_cmp x.1 y.1)) m (placed_in x ys e)
  where
    by : (b : Bool) → (e ≡ x) ⊎ IsMember e (y ∷ ys) → ((e ≡ x) ⊎ IsMember e ys → IsMember e (placed x ys)) → IsMember e (if b then x ∷ y ∷ ys else y ∷ placed x ys)
    by true m more = m
    by false (inl same) more = inr (more (inl same))
    by false (inr (inl same)) more = inl same
    by false (inr (inr w)) more = inr (more (inr w))

all_placed : (k : List ℕ) (x : Numbered) (xs : List Numbered) → Below k x.1 → AllAbove k xs → AllAbove k (placed x xs)
all_placed k x [] b a = (b, tt)
all_placed k x (y ∷ ys) b a = by (is_lt (slice_cmp nat_cmp x.1 y.1)) (all_placed k x ys b a.1)
  where
    by : (c : Bool) → AllAbove k (placed x ys) → AllAbove k (if c then x ∷ y ∷ ys else y ∷ placed x ys)
    by true more = (b, (a.0, a.1))
    by false more = (a.0, more)

placed_rising : (x : Numbered) (xs : List Numbered) → IsRising xs → ((e : Numbered) → IsMember e xs → e.1 ≢ x.1) → IsRising (placed x xs)
placed_rising x [] r apart = (tt, tt)
placed_rising x (y ∷ ys) r apart = by (is_lt (slice_cmp nat_cmp x.1 y.1)) refl (placed_rising x ys r.1 (λ e m. apart e (inr m)))
  where
    by : (b : Bool) → is_lt (slice_cmp nat_cmp x.1 y.1) ≡ b → IsRising (placed x ys) → IsRising (if b then x ∷ y ∷ ys else y ∷ placed x ys)
    by true e more = let low = lt_below x.1 y.1 true e refl in ((low, above_more x.1 y.1 ys low r.0), (r.0, r.1))
    by false e more = elim (not_lt x.1 y.1 e) [
      | inl same ↦ absurd (apart y (inl refl) same)
      | inr low ↦ (all_placed y.1 x ys low r.0, more)
    ]

pub in_order_out : (xs : List Numbered) (e : Numbered) → IsMember e (in_order xs) → IsMember e xs
in_order_out [] e m = m
in_order_out (x ∷ xs) e m = elim (placed_out x (in_order xs) e m) [ inl same ↦ inl same | inr w ↦ inr (in_order_out xs e w) ]

pub in_order_in : (xs : List Numbered) (e : Numbered) → IsMember e xs → IsMember e (in_order xs)
in_order_in [] e m = m
in_order_in (x ∷ xs) e (inl same) = placed_in x (in_order xs) e (inl same)
in_order_in (x ∷ xs) e (inr m) = placed_in x (in_order xs) e (inr (in_order_in xs e m))

pub in_order_rising : (xs : List Numbered) → AreApart xs → IsRising (in_order xs)
in_order_rising [] apart = tt
in_order_rising (x ∷ xs) apart = placed_rising x (in_order xs) (in_order_rising xs apart.1) (λ e m. apart.0 e (in_order_out xs e m))

-- ---- numbers

pub numbered_in : (names : List (List ℕ)) (n m : ℕ) → m < length names → IsMember (n + m, get_or names m []) (enumerate_from n names)
numbered_in [] n m lt = absurd (omega arith)
numbered_in (x ∷ names) n zero lt = let e : n + 0 ≡ n = omega arith in inl (λ i. (e i, x))
numbered_in (x ∷ names) n (suc m) lt =
    let e : (n + 1) + m ≡ n + suc m = omega arith in
    inr (subst (λ (k : ℕ). IsMember (k, get_or names m []) (enumerate_from (n + 1) names)) e (numbered_in names (n + 1) m (omega arith)))

pub numbered_out : (names : List (List ℕ)) (n : ℕ) (e : Numbered) → IsMember e (enumerate_from n names) → (m : ℕ) × (m < length names) × (e ≡ (n + m, get_or names m []))
numbered_out [] n e m = absurd m
numbered_out (x ∷ names) n e (inl same) = let z : n ≡ n + 0 = omega arith in (0, omega arith, same ∙ (λ i. (z i, x)))
numbered_out (x ∷ names) n e (inr m) =
    let w = numbered_out names (n + 1) e m in
    let z : (n + 1) + w.0 ≡ n + suc w.0 = omega arith in
    let lt = w.1 in
    (suc w.0, omega arith, w.2 ∙ (λ i. (z i, get_or names w.0 [])))

pub numbered_apart : (names : List (List ℕ)) (n : ℕ) → ((i j : ℕ) → i < length names → j < length names → get_or names i [] ≡ get_or names j [] → i ≡ j) → AreApart (enumerate_from n names)
numbered_apart [] n one = tt
numbered_apart (x ∷ names) n one = (
  λ e m same.
      let w = numbered_out names (n + 1) e m in
      let at : get_or names w.0 [] ≡ x = sym (ap (λ (y : Numbered). y.1) w.2) ∙ same in
      let no : suc w.0 ≡ 0 = one (suc w.0) 0 (let lt = w.1 in omega arith) (omega arith) at in
      absurd (omega arith),
  numbered_apart names (n + 1) (λ i j a b e. let s : suc i ≡ suc j = one (suc i) (suc j) (omega arith) (omega arith) e in omega arith),
)

-- ---- from a key on

le_of : (a b : List ℕ) → AtMost a b → is_le (slice_cmp nat_cmp a b) ≡ true
le_of a b (inl e) = by (slice_cmp nat_cmp a b) refl
  where
    by : (r : Ordering) → slice_cmp nat_cmp a b ≡ r → is_le r ≡ true
    by Less h = refl
    by Equal h = refl
    by Greater h =
        let flip : slice_cmp nat_cmp b a ≡ Less = reversed (slice_cmp nat_cmp b a) (sym (nat_list_cmp_total.antisymm a b) ∙ h) in
        absurd (not_below_itself b (subst (λ (l : List ℕ). Below b l) e (below_from_less b a flip)))
      where
        reversed : (o : Ordering) → ordering_reverse o ≡ Greater → o ≡ Less
        reversed Less h = refl
        reversed Equal h = cc
        reversed Greater h = cc
le_of a b (inr low) = ap is_le (less_from_below a b low)

gt_of : (a b : List ℕ) → Below b a → is_le (slice_cmp nat_cmp a b) ≡ false
gt_of a b low = by (slice_cmp nat_cmp b a) (less_from_below b a low)
  where
    by : (o : Ordering) → slice_cmp nat_cmp b a ≡ Less → is_le (slice_cmp nat_cmp a b) ≡ false
    by o h = ap is_le (nat_list_cmp_total.antisymm a b ∙ ap ordering_reverse h)

pub le_at : (a b : List ℕ) → is_le (slice_cmp nat_cmp a b) ≡ true → AtMost a b
le_at a b e = elim (compared a b) [
  | inl same ↦ inl same
  | inr (inl low) ↦ inr low
  | inr (inr high) ↦ let no : true ≡ false = sym e ∙ gt_of a b high in cc
]

pub at_le : (a b : List ℕ) → AtMost a b → is_le (slice_cmp nat_cmp a b) ≡ true
at_le = le_of

filter_yes : (p : Numbered → Bool) (x : Numbered) (xs : List Numbered) → p x ≡ true → filter p (x ∷ xs) ≡ x ∷ filter p xs
filter_yes p x xs e = rw e refl

filter_no : (p : Numbered → Bool) (x : Numbered) (xs : List Numbered) → p x ≡ false → filter p (x ∷ xs) ≡ filter p xs
filter_no p x xs e = rw e refl

pub filter_all : (p : Numbered → Bool) (xs : List Numbered) → ((e : Numbered) → IsMember e xs → p e ≡ true) → filter p xs ≡ xs
filter_all p [] all = refl
filter_all p (x ∷ xs) all = filter_yes p x xs (all x (inl refl)) ∙ ap (λ (l : List Numbered). x ∷ l) (filter_all p xs (λ e m. all e (inr m)))

decided : (b : Bool) → (b ≡ true → ⊥) → b ≡ false
decided true f = absurd (f refl)
decided false f = refl

-- from an entry's key on: the entry, and then those above it
pub picks : (xs : List Numbered) (at : Numbered) (p : Numbered → Bool) → IsRising xs → IsMember at xs
    → ((e : Numbered) → IsMember e xs → p e ≡ true → Below at.1 e.1) → ((e : Numbered) → IsMember e xs → Below at.1 e.1 → p e ≡ true)
    → filter (λ e. is_le (slice_cmp nat_cmp at.1 e.1)) xs ≡ at ∷ filter p xs
picks [] at p r m out back = absurd m
picks (x ∷ xs) at p r (inl same) out back =
    let q : Numbered → Bool = λ e. is_le (slice_cmp nat_cmp at.1 e.1) in
    let low : (e : Numbered) → IsMember e xs → Below at.1 e.1 = λ e m. subst (λ (y : Numbered). Below y.1 e.1) (sym same) (above_at x.1 xs e r.0 m) in
    filter_yes q x xs (le_of at.1 x.1 (inl (ap (λ (y : Numbered). y.1) same)))
    ∙ (λ i. sym same i ∷ (filter_all q xs (λ e m. le_of at.1 e.1 (inr (low e m))) ∙ sym (filter_all p xs (λ e m. back e (inr m) (low e m)))) i)
    ∙ ap (λ (l : List Numbered). at ∷ l) (sym (filter_no p x xs (decided (p x) (λ h. not_below_itself at.1 (subst (λ (y : Numbered). Below at.1 y.1) (sym same) (out x (inl refl) h))))))
picks (x ∷ xs) at p r (inr m) out back =
    let q : Numbered → Bool = λ e. is_le (slice_cmp nat_cmp at.1 e.1) in
    let low : Below x.1 at.1 = above_at x.1 xs at r.0 m in
    filter_no q x xs (gt_of at.1 x.1 low)
    ∙ picks xs at p r.1 m (λ e w. out e (inr w)) (λ e w. back e (inr w))
    ∙ ap (λ (l : List Numbered). at ∷ l) (sym (filter_no p x xs (decided (p x) (λ h. not_below_itself x.1 (below_trans x.1 at.1 x.1 low (out x (inl refl) h))))))
